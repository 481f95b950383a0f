-- A text at a place of a list: where it stands, or that none does. Assumes nothing.
use mathlib.Core.Path.{◌≡◌, refl, ◌∙◌}
use Prim.Native.Nat.{ℕ, ◌+◌, ◌-◌, ◌<◌, ◌≤◌}
use native.Mathlib.Omega.{arith}
use borrow.Author.Tests.{le-leb, lt-leb, leb-true, leb-false}
use mathlib.Core.Bool.{Bool, true, false}
use lib.Dec.{leb}
use lib.ListN.{length, take, drop, length-drop}
use lib.Seq.{drop-drop}
use Rattle.meaning.specs.Bytes.{Text}
use Rattle.meaning.specs.Number as meaning
use Rattle.std.specs.Prelude.{Option, Some, None}
use Rattle.number.specs.declared.Number.{Number}
use Rattle.number.specs.Reading.{number_at}
use Rattle.number.proofs.Answers.{number-stands, number-none}
use Rattle.parse.proofs.Parts.{part_length}
use Rattle.std.specs.Prelude.{Some, Ok}
use Rattle.list.specs.declared.cursor.Record.{Record}
use Rattle.list.specs.declared.stretch.Stretch.{Stretch}
use Rattle.list.specs.Cursor.{placed_step}

-- the next n bytes, where there are as many
pub bytes-taken : (s : Text) (at n : ℕ) → at + n ≤ length s → meaning.read_bytes n (drop at s) ≡ meaning.took (take n (drop at s)) (drop (at + n) s)
unfolding meaning.read_bytes
bytes-taken s at n h =
    let k : n ≤ length (drop at s) = rw (length-drop at s) (omega arith) in
    rw (le-leb n (length (drop at s)) k, drop-drop n at s)

-- where there are fewer
pub bytes-short : (s : Text) (at n : ℕ) → length s - at < n → meaning.read_bytes n (drop at s) ≡ meaning.no 13
unfolding meaning.read_bytes
bytes-short s at n h =
    let k : length (drop at s) < n = rw (length-drop at s) h in
    rw (lt-leb n (length (drop at s)) k)

-- the record of so many bytes at a place
abbrev pub record_at : ℕ → ℕ → Record Stretch
record_at at n = record { value = record { at = at; len = n }; next = record { at = at + n } }

-- so many bytes at a place, as a step
pub placed-bytes : (s : Text) (at n : ℕ) → at + n ≤ length s → placed_step s (meaning.took (take n (drop at s)) (drop (at + n) s)) ≡ Ok (Some (record_at at n))
placed-bytes s at n h =
    let e : length (drop (at + n) s) ≡ length s - (at + n) = length-drop (at + n) s in
    let p : length s - (length s - (at + n)) ≡ at + n = omega arith in
    let q : at + n - n ≡ at = omega arith in
    rw (e, p, part_length s at n h, q)

-- a number read before a text
module _ (s : Text) (at : ℕ) (x : Number) (e : number_at s at ≡ Some x) where
  -- the text is read on from its end
  pub text-from : meaning.read_text (drop at s) ≡ meaning.read_bytes x.value (drop x.next s)
  unfolding meaning.read_text
  text-from = rw (number-stands s at x e).reads

  -- which is within the list
  pub number-within : x.next ≤ length s
  number-within = (number-stands s at x e).within

-- no text without a number
pub text-none : (s : Text) (at : ℕ) → number_at s at ≡ None → meaning.read_text (drop at s) ≡ meaning.no 13
unfolding meaning.read_text
text-none s at e = rw (number-none s at e)

-- what stands at a place: a text, or none
pub data TextAt (s : Text) (at : ℕ) : Type 0 where
  stands : (start len : ℕ) → at < start → start + len ≤ length s → meaning.read_text (drop at s) ≡ meaning.took (take len (drop start s)) (drop (start + len) s) → TextAt s at
  malformed : meaning.read_text (drop at s) ≡ meaning.no 13 → TextAt s at

-- one of the two
pub text_at_lem : (s : Text) (at : ℕ) → TextAt s at
text_at_lem s at = go (number_at s at) refl
  where
    ends : (x : Number) → number_at s at ≡ Some x → (b : Bool) → leb (x.next + x.value) (length s) ≡ b → TextAt s at
    ends x e true h =
        let k = leb-true (x.next + x.value) (length s) h in
        stands x.next x.value (number-stands s at x e).from k (text-from s at x e ∙ bytes-taken s x.next x.value k)
    ends x e false h =
        let k = leb-false (x.next + x.value) (length s) h in
        let w = number-within s at x e in
        malformed (text-from s at x e ∙ bytes-short s x.next x.value (omega arith))

    go : (a : Option Number) → number_at s at ≡ a → TextAt s at
    go (Some x) e = ends x e (leb (x.next + x.value) (length s)) refl
    go None e = malformed (text-none s at e)
