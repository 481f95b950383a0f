-- A list that is refused is refused with a number above 0. Assumes nothing.
use mathlib.Core.Path.{◌≡◌, refl, sym, ◌∙◌}
use mathlib.Core.Bool.{Bool, true, false, cond}
use mathlib.Core.List.{List, [], ◌∷◌}
use mathlib.Core.Option.{Option, none, some}
use Prim.Native.Nat.{ℕ, zero, suc, ◌<◌}
use native.Mathlib.Omega.{arith}
use lib.Dec.{leb, ltb}
use lib.ListN.{length, take, drop}
use Rattle.meaning.specs.Bytes.{Text}
use Rattle.meaning.specs.Limits.{name_bytes, spec_list_bytes, item_list_bytes, row_list_bytes, spec_count, item_count}
use Rattle.meaning.specs.Spec.{Answer, accepted, refused, spec_refusal, spec_of, unless, read_spec}
use Rattle.meaning.specs.Number.{Step, took, no, Reader, step_then, ◌>>=◌, give, need, read_number, read_bytes, read_text}
use Rattle.meaning.specs.Lists.{with_first, record_then, records_from, answered, read_list, spec_record, item_record, read_specs, read_items}
use Rattle.meaning.specs.Rows.{destination_after, read_destination, read_front, read_row, row_passes, row_record, read_rows}
use Rattle.std.specs.Prelude as std
use Rattle.number.specs.declared.Number.{Number}
use Rattle.number.specs.Reading.{number_at}
use Rattle.number.proofs.Answers.{number-stands, number-none}

-- what a reader refuses with is above 0
abbrev Positive : {A : Type 0} → Reader A → Type 0
Positive r = (s : Text) (n : ℕ) → r s ≡ no n → 0 < n

module _ {A B : Type 0} where
  positive-then : (r : Reader A) (f : A → Reader B) → Positive r → ((a : A) → Positive (f a)) → Positive (r >>= f)
  positive-then r f p q s n e = go (r s) refl e
    where
      go : (x : Step A) → r s ≡ x → step_then x f ≡ no n → 0 < n
      go (took a rest) h g = q a rest n g
      go (no k) h g = let i : k ≡ n = cc in rw (← i) (p s k h)

module _ {A : Type 0} where
  positive-give : (a : A) → Positive (give a)
  positive-give a s n e = absurd (let z : ◌≡◌ {A = ℕ} 0 1 = cc in omega arith)

  positive-need : (k : ℕ) (b : Bool) (r : Reader A) → 0 < k → Positive r → Positive (need k b r)
  positive-need k true r h p s n e = p s n e
  positive-need k false r h p s n e = let i : k ≡ n = cc in rw (← i) h

  positive-unless : (k : ℕ) (a : A) → Positive (answered (unless k a))
  positive-unless zero a s n e = absurd (let z : ◌≡◌ {A = ℕ} 0 1 = cc in omega arith)
  positive-unless (suc k) a s n e = let i : suc k ≡ n = cc in rw (← i) (omega arith)

positive-number : Positive read_number
positive-number s n e = go (number_at s 0) refl
  where
    go : (a : std.Option Number) → number_at s 0 ≡ a → 0 < n
    go (std.Some x) f =
        let q : no n ≡ took x.value (drop x.next s) = sym e ∙ (number-stands s 0 x f).reads in
        absurd (let z : ◌≡◌ {A = ℕ} 0 1 = cc in omega arith)
    go std.None f = let q : no n ≡ no 13 = sym e ∙ number-none s 0 f in let i : n ≡ 13 = cc in omega arith

positive-bytes : (k : ℕ) → Positive (read_bytes k)
unfolding read_bytes
positive-bytes k s n e = go (leb k (length s)) e
  where
    go : (b : Bool) → cond b (took (take k s) (drop k s)) (no 13) ≡ no n → 0 < n
    go true f = absurd (let z : ◌≡◌ {A = ℕ} 0 1 = cc in omega arith)
    go false f = let i : 13 ≡ n = cc in omega arith

positive-text : Positive read_text
unfolding read_text
positive-text = positive-then read_number read_bytes positive-number positive-bytes

positive-after : (k : ℕ) → Positive (destination_after k)
positive-after zero = positive-give none
positive-after (suc k) = positive-then (read_bytes k) (λ t. give (some t)) (positive-bytes k) (λ t. positive-give (some t))

positive-destination : Positive read_destination
unfolding read_destination
positive-destination = positive-then read_number destination_after positive-number positive-after

positive-row : Positive read_row
unfolding read_row read_front
positive-row =
    positive-then read_number _ positive-number λ i.
    positive-then read_number _ positive-number λ s.
    positive-then read_number _ positive-number λ k.
    positive-then read_text _ positive-text λ src.
    positive-then read_destination _ positive-destination λ dst.
    positive-give (record { item = i; spec = s; kind = k; source = src; destination = dst })

-- what one record is refused with
pub specs-positive : (op i : ℕ) → Positive (spec_record op i)
unfolding spec_record read_spec
specs-positive op i = positive-need 14 (ltb i spec_count) _ (omega arith) (positive-then read_text (λ t. answered (read_spec op t)) positive-text (λ t. positive-unless (spec_refusal op t) (spec_of op t)))

items-positive : (i : ℕ) → Positive (item_record i)
unfolding item_record
items-positive i = positive-need 14 (ltb i item_count) _ (omega arith) (positive-then read_text _ positive-text (λ t. positive-need 15 (leb (length t) name_bytes) (give t) (omega arith) (positive-give t)))

rows-positive : (specs i : ℕ) → Positive (row_record specs i)
unfolding row_record
rows-positive specs i = positive-then read_row _ positive-row (λ r. positive-need 16 (row_passes specs r) (give r) (omega arith) (positive-give r))

-- a list of records
module _ {A : Type 0} (one : ℕ → Reader A) (positive : (i : ℕ) → Positive (one i)) where
  first-refusal : (a : A) (x : Answer (List A)) (n : ℕ) (r : Option ℕ) → with_first a x ≡ refused n r → x ≡ refused n r
  first-refusal a (accepted l) n r e = absurd (let z : ◌≡◌ {A = ℕ} 0 1 = cc in omega arith)
  first-refusal a (refused m q) n r e = e

  records-refusal : (k i : ℕ) (s : Text) (n : ℕ) (r : Option ℕ) → records_from one k i s ≡ refused n r → 0 < n
  records-refusal zero i [] n r e = absurd (let z : ◌≡◌ {A = ℕ} 0 1 = cc in omega arith)
  records-refusal zero i (x ∷ s) n r e = let q : 13 ≡ n = cc in omega arith
  records-refusal (suc k) i [] n r e = absurd (let z : ◌≡◌ {A = ℕ} 0 1 = cc in omega arith)
  records-refusal (suc k) i (x ∷ s) n r e = go (λ rest. records-refusal k (suc i) rest n r) (one i (x ∷ s)) refl e
    where
      go : ((rest : Text) → records_from one k (suc i) rest ≡ refused n r → 0 < n) → (w : Step A) → one i (x ∷ s) ≡ w → record_then i w (λ rest. records_from one k (suc i) rest) ≡ refused n r → 0 < n
      go h (took a rest) f g = h rest (first-refusal a (records_from one k (suc i) rest) n r g)
      go h (no m) f g = let q : m ≡ n = cc in rw (← q) (positive i (x ∷ s) m f)

  pub list-refusal : (limit : ℕ) (s : Text) (n : ℕ) (r : Option ℕ) → read_list limit one s ≡ refused n r → 0 < n
  unfolding read_list
  list-refusal limit s n r e = go (leb (length s) limit) e
    where
      go : (b : Bool) → cond b (records_from one (length s) 0 s) (refused 12 none) ≡ refused n r → 0 < n
      go true f = records-refusal (length s) 0 s n r f
      go false f = let q : 12 ≡ n = cc in omega arith

pub specs-refusal : (op : ℕ) (s : Text) (n : ℕ) (r : Option ℕ) → read_specs op s ≡ refused n r → 0 < n
unfolding read_specs
specs-refusal op s n r e = go (leb op 1) e
  where
    go : (b : Bool) → cond b (read_list spec_list_bytes (spec_record op) s) (refused 18 none) ≡ refused n r → 0 < n
    go true f = list-refusal (spec_record op) (specs-positive op) spec_list_bytes s n r f
    go false f = let q : 18 ≡ n = cc in omega arith

pub items-refusal : (s : Text) (n : ℕ) (r : Option ℕ) → read_items s ≡ refused n r → 0 < n
unfolding read_items
items-refusal s n r e = list-refusal item_record items-positive item_list_bytes s n r e

pub rows-refusal : (specs : ℕ) (s : Text) (n : ℕ) (r : Option ℕ) → read_rows specs s ≡ refused n r → 0 < n
unfolding read_rows
rows-refusal specs s n r e = list-refusal (row_record specs) (rows-positive specs) row_list_bytes s n r e
