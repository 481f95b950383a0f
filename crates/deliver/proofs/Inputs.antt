-- What the input prints. Assumes nothing.
use mathlib.Core.Path.{◌≡◌, refl, sym, ◌∙◌}
use mathlib.Core.Bool.{Bool, true, false, cond}
use mathlib.Core.List.{List, [], ◌∷◌, ◌++◌}
use mathlib.Core.Option.{none}
use mathlib.Core.Option as math
use Prim.Native.Nat.{ℕ, ◌+◌, ◌-◌, ◌≤◌, ◌<◌}
use native.Mathlib.Omega.{arith}
use borrow.Author.Tests.{le-leb, lt-leb, leb-true}
use lib.Dec.{leb}
use lib.ListN.{length, take, drop, length-append, length-drop}
use lib.Seq.{drop-drop, length-take-le}
use Rattle.meaning.specs.Bytes.{Text, bytes, each}
use Rattle.meaning.specs.Limits.{program_bytes}
use Rattle.meaning.specs.Spec.{Answer, accepted, refused, Spec}
use Rattle.meaning.specs.Number.{Step, took, no, read_bytes, read_text}
use Rattle.meaning.specs.Lists.{read_specs, read_items}
use Rattle.meaning.specs.Listing.{forward_rows}
use Rattle.meaning.specs.Entries.{◌and_then◌}
use Rattle.meaning.specs.Deliveries.{decimal, row_line, header, within_limit, printed, parted, output, deliveries}
use Rattle.buffer.specs.Splice.{splice}
use Rattle.text.proofs.Rests.{rest_part}
use Rattle.std.specs.Prelude.{Option, Some, None}
use Rattle.number.specs.declared.Number.{Number}
use Rattle.number.specs.Reading.{number_at}
use Rattle.number.proofs.Answers.{number-stands, number-none}
use Rattle.parse.proofs.Parts.{part_of}
use Rattle.print.proofs.Decimals.{decimal-few}
use Rattle.deliver.specs.Printed.{Prints}

-- a text that is another
prints-as : (s t : Text) → s ≡ t → (d o : Text) (r : ℕ) → Prints t d o r → Prints s d o r
prints-as s t e d o r p = rw e p

refusal : (s : Text) (n : ℕ) → s ≡ output (refused n none) → (d o : Text) (r : ℕ) → o ≡ splice d 0 (output (refused n none)) → r ≡ length (output (refused n none)) → Prints s d o r
refusal s n e d o r p q = prints-as s (output (refused n none)) e d o r (record { puts = p; size_is = q })

-- the parts of the input after its number
module _ (s : Text) (at n : ℕ) (within : at ≤ length s) where
  -- fewer bytes follow
  few : length s - at < n → output (parted (read_bytes n (drop at s))) ≡ output (refused 13 none)
  unfolding read_bytes
  few h = rw (lt-leb n (length (drop at s)) (omega (arith, length-drop at s)))

  pub parts-few : length s - at < n → (d o : Text) (r : ℕ) → o ≡ splice d 0 (output (refused 13 none)) → r ≡ length (output (refused 13 none)) → Prints (output (parted (read_bytes n (drop at s)))) d o r
  parts-few h = refusal (output (parted (read_bytes n (drop at s)))) 13 (few h)

  -- the spec list, and the item list to the end
  both : n ≤ length s - at → output (parted (read_bytes n (drop at s))) ≡ output (printed (take (at + n - at) (drop at s)) (take (length s - (at + n)) (drop (at + n) s)))
  unfolding read_bytes
  both h = rw (le-leb n (length (drop at s)) (omega (arith, length-drop at s)), part_of s at n, rest_part s (at + n), drop-drop n at s)

  pub parts-both : n ≤ length s - at → (d o : Text) (r : ℕ) → Prints (output (printed (take (at + n - at) (drop at s)) (take (length s - (at + n)) (drop (at + n) s)))) d o r → Prints (output (parted (read_bytes n (drop at s)))) d o r
  parts-both h = prints-as (output (parted (read_bytes n (drop at s)))) (output (printed (take (at + n - at) (drop at s)) (take (length s - (at + n)) (drop (at + n) s)))) (both h)

-- the whole input
module _ (s : Text) where
  -- above its limit
  twelve : program_bytes < length s → deliveries s ≡ output (refused 12 none)
  unfolding deliveries
  twelve h = rw (lt-leb (length s) program_bytes h)

  pub input-long : program_bytes < length s → (d o : Text) (r : ℕ) → o ≡ splice d 0 (output (refused 12 none)) → r ≡ length (output (refused 12 none)) → Prints (deliveries s) d o r
  input-long h = refusal (deliveries s) 12 (twelve h)

  -- within it
  module _ (h : length s ≤ program_bytes) (a : Option Number) (e : a ≡ number_at s 0) where
    thirteen : a ≡ None → deliveries s ≡ output (refused 13 none)
    unfolding deliveries read_text
    thirteen f = rw (le-leb (length s) program_bytes h, number-none s 0 (sym e ∙ f))

    pub number-malformed : a ≡ None → (d o : Text) (r : ℕ) → o ≡ splice d 0 (output (refused 13 none)) → r ≡ length (output (refused 13 none)) → Prints (deliveries s) d o r
    number-malformed f = refusal (deliveries s) 13 (thirteen f)

    module _ (x : Number) (f : a ≡ Some x) where
      pub number-within : x.next ≤ length s
      number-within = (number-stands s 0 x (sym e ∙ f)).within

      after : deliveries s ≡ output (parted (read_bytes x.value (drop x.next s)))
      unfolding deliveries read_text
      after = rw (le-leb (length s) program_bytes h, (number-stands s 0 x (sym e ∙ f)).reads)

      pub number-parts : (d o : Text) (r : ℕ) → Prints (output (parted (read_bytes x.value (drop x.next s)))) d o r → Prints (deliveries s) d o r
      number-parts = prints-as (deliveries s) (output (parted (read_bytes x.value (drop x.next s)))) after

-- no more is printed than the limit
refusal-short : (n : ℕ) (r : math.Option ℕ) → length (output (refused n r)) ≤ program_bytes
refusal-short n r = omega (arith, decimal-few n, length-append (bytes "refused ") (decimal n ++ (10 ∷ [])), length-append (decimal n) (10 ∷ []))

limit-short : (t : Text) → length (output (within_limit t)) ≤ program_bytes
limit-short t = go (leb (length t) program_bytes) refl
  where
    go : (b : Bool) → leb (length t) program_bytes ≡ b → length (output (cond b (accepted t) (refused 17 none))) ≤ program_bytes
    go true e = leb-true (length t) program_bytes e
    go false e = refusal-short 17 none

printed-short : (specs items : Text) → length (output (printed specs items)) ≤ program_bytes
unfolding printed
printed-short specs items = go (read_specs 0 specs) (read_items items)
  where
    go : (a : Answer (List Spec)) (b : Answer (List Text)) → length (output (a and_then λ group. b and_then λ names. within_limit (header ++ each (forward_rows group names) row_line))) ≤ program_bytes
    go (refused n r) b = refusal-short n r
    go (accepted group) (refused n r) = refusal-short n r
    go (accepted group) (accepted names) = limit-short (header ++ each (forward_rows group names) row_line)

-- what two lists print
pub printed-within : (specs items d o : Text) (r : ℕ) → Prints (output (printed specs items)) d o r → r ≤ program_bytes
printed-within specs items d o r p = omega (arith, printed-short specs items, p.size_is)

-- it is as long as the part of its buffer
pub printed-part : (specs items d o : Text) (r : ℕ) → Prints (output (printed specs items)) d o r → length o ≡ program_bytes → length (take r o) ≡ r
printed-part specs items d o r p e = length-take-le r o (omega (arith, printed-within specs items d o r p))

deliveries-short : (s : Text) → length (deliveries s) ≤ program_bytes
unfolding deliveries
deliveries-short s = go (leb (length s) program_bytes) (read_text s)
  where
    go : (b : Bool) (w : Step Text) → length (output (cond b (parted w) (refused 12 none))) ≤ program_bytes
    go false w = refusal-short 12 none
    go true (took specs items) = printed-short specs items
    go true (no n) = refusal-short n none

pub delivered : (s d o : Text) (r : ℕ) → Prints (deliveries s) d o r → (o ≡ splice d 0 (deliveries s)) × (r ≡ length (deliveries s)) × (r ≤ program_bytes)
delivered s d o r p = (p.puts, p.size_is, omega (arith, deliveries-short s, p.size_is))
