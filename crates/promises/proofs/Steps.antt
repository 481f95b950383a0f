-- Lists are read record by record: the equations of reading, in which no count of steps stands. Assumes nothing.
use mathlib.Core.Path.{◌≡◌, refl, ap}
use mathlib.Core.Bool.{Bool, true, false, cond}
use mathlib.Core.List.{List, [], ◌∷◌}
use mathlib.Core.Option.{none, some}
use Prim.Native.Nat.{ℕ, zero, suc, ◌+◌, ◌-◌, ◌*◌, ◌≤◌, ◌<◌}
use native.Mathlib.Omega.{arith}
use borrow.Author.Tests.{le-leb}
use lib.Dec.{eqb, leb, ltb}
use lib.ListN.{length, take, drop, length-drop}
use Rattle.meaning.specs.Bytes.{Text}
use Rattle.meaning.specs.Limits.{name_bytes, spec_count, item_count, number_groups}
use Rattle.meaning.specs.Spec.{Answer, accepted, refused, read_spec}
use Rattle.meaning.specs.Number.{Step, took, no, Reader, step_then, ◌>>=◌, give, need, group_before, read_groups, read_number, read_bytes, read_text}
use Rattle.meaning.specs.Lists.{with_first, record_then, records_from, answered, read_list, spec_record, item_record}
use Rattle.meaning.specs.Rows.{destination_after, read_destination, read_front, read_row, row_passes, row_record}
unfoldable pub use Rattle.promises.specs.Facts.{records}
use Rattle.promises.specs.Facts.{RecordByRecord, ListsRecordByRecord}
use Rattle.promises.proofs.Members.{step-took}

-- what is left is no longer, or is shorter

abbrev Keeps : {A : Type 0} → Reader A → Type 0
Keeps {A} r = (s : Text) (a : A) (rest : Text) → r s ≡ took a rest → length rest ≤ length s

abbrev Shrinks : {A : Type 0} → Reader A → Type 0
Shrinks {A} r = (s : Text) (a : A) (rest : Text) → r s ≡ took a rest → length rest < length s

module _ {A B : Type 0} where
  keeps_then : (r : Reader A) (f : A → Reader B) → Keeps r → ((a : A) → Keeps (f a)) → Keeps (r >>= f)
  keeps_then r f h k s b rest e =
      let q = step-took (r s) f e in
      omega (arith, h s q.0 q.1 q.2, k q.0 q.1 b rest q.3)

  shrinks-then : (r : Reader A) (f : A → Reader B) → Shrinks r → ((a : A) → Keeps (f a)) → Shrinks (r >>= f)
  shrinks-then r f h k s b rest e =
      let q = step-took (r s) f e in
      omega (arith, h s q.0 q.1 q.2, k q.0 q.1 b rest q.3)

module _ {A : Type 0} where
  shrinks-keeps : (r : Reader A) → Shrinks r → Keeps r
  shrinks-keeps r h s a rest e = omega (arith, h s a rest e)

  give-keeps : (x : A) → Keeps (give x)
  give-keeps x s a rest e = let q : s ≡ rest = cc in rw q (omega arith)

  need-keeps : (n : ℕ) (b : Bool) (r : Reader A) → Keeps r → Keeps (need n b r)
  need-keeps n true r h s a rest e = h s a rest e
  need-keeps n false r h s a rest e = absurd (let z : ◌≡◌ {A = ℕ} 0 1 = cc in omega arith)

  need-shrinks : (n : ℕ) (b : Bool) (r : Reader A) → Shrinks r → Shrinks (need n b r)
  need-shrinks n true r h s a rest e = h s a rest e
  need-shrinks n false r h s a rest e = absurd (let z : ◌≡◌ {A = ℕ} 0 1 = cc in omega arith)

  answered-keeps : (x : Answer A) → Keeps (answered x)
  answered-keeps (accepted y) s a rest e = let q : s ≡ rest = cc in rw q (omega arith)
  answered-keeps (refused n r) s a rest e = absurd (let z : ◌≡◌ {A = ℕ} 0 1 = cc in omega arith)

group-keeps : (b n : ℕ) → Keeps (group_before b n)
group-keeps b n s a rest e = go (eqb n 0) e
  where
    go : (c : Bool) → cond c (no 13) (took (b - 128 + n * 128) s) ≡ took a rest → length rest ≤ length s
    go true p = absurd (let z : ◌≡◌ {A = ℕ} 0 1 = cc in omega arith)
    go false p = let q : s ≡ rest = cc in rw q (omega arith)

groups-shrink : (k : ℕ) → Shrinks (read_groups k)
groups-shrink zero s a rest e = absurd (let z : ◌≡◌ {A = ℕ} 0 1 = cc in omega arith)
groups-shrink (suc k) [] a rest e = absurd (let z : ◌≡◌ {A = ℕ} 0 1 = cc in omega arith)
groups-shrink (suc k) (b ∷ s) a rest e = go (groups-shrink k s) (ltb b 128) e
  where
    go : ((n : ℕ) (r : Text) → read_groups k s ≡ took n r → length r < length s) → (c : Bool) → cond c (took b s) (step_then (read_groups k s) (group_before b)) ≡ took a rest → length rest < suc (length s)
    go f true p = let q : s ≡ rest = cc in rw q (omega arith)
    go f false p =
        let q = step-took (read_groups k s) (group_before b) p in
        omega (arith, f q.0 q.1 q.2, group-keeps b q.0 q.1 a rest q.3)

number-shrinks : Shrinks read_number
unfolding read_number
number-shrinks = groups-shrink number_groups

bytes-keep : (n : ℕ) → Keeps (read_bytes n)
unfolding read_bytes
bytes-keep n s a rest e = go (leb n (length s)) e
  where
    go : (c : Bool) → cond c (took (take n s) (drop n s)) (no 13) ≡ took a rest → length rest ≤ length s
    go true p = let q : drop n s ≡ rest = cc in rw (← q) (omega (arith, length-drop n s))
    go false p = absurd (let z : ◌≡◌ {A = ℕ} 0 1 = cc in omega arith)

text-shrinks : Shrinks read_text
unfolding read_text
text-shrinks = shrinks-then read_number read_bytes number-shrinks bytes-keep

after-keeps : (n : ℕ) → Keeps (destination_after n)
after-keeps zero = give-keeps none
after-keeps (suc n) = keeps_then (read_bytes n) (λ t. give (some t)) (bytes-keep n) (λ t. give-keeps (some t))

destination-keeps : Keeps read_destination
unfolding read_destination
destination-keeps = keeps_then read_number destination_after (shrinks-keeps read_number number-shrinks) after-keeps

-- a spec takes a byte at least
pub specs-shrink : (op i : ℕ) → Shrinks (spec_record op i)
unfolding spec_record
specs-shrink op i = need-shrinks 14 (ltb i spec_count) _ (shrinks-then read_text (λ t. answered (read_spec op t)) text-shrinks (λ t. answered-keeps (read_spec op t)))

-- so does an item
pub items-shrink : (i : ℕ) → Shrinks (item_record i)
unfolding item_record
items-shrink i = need-shrinks 14 (ltb i item_count) _ (shrinks-then read_text _ text-shrinks (λ t. need-keeps 15 (leb (length t) name_bytes) (give t) (give-keeps t)))

row-shrinks : Shrinks read_row
unfolding read_row read_front
row-shrinks =
    shrinks-then read_number _ number-shrinks λ i.
    keeps_then read_number _ (shrinks-keeps read_number number-shrinks) λ s.
    keeps_then read_number _ (shrinks-keeps read_number number-shrinks) λ k.
    keeps_then read_text _ (shrinks-keeps read_text text-shrinks) λ src.
    keeps_then read_destination _ destination-keeps λ dst.
    give-keeps (record { item = i; spec = s; kind = k; source = src; destination = dst })

-- and a row
pub rows-shrink : (specs i : ℕ) → Shrinks (row_record specs i)
unfolding row_record
rows-shrink specs i = shrinks-then read_row _ row-shrinks (λ r. need-keeps 16 (row_passes specs r) (give r) (give-keeps r))

module _ {B : Type 0} (one : ℕ → Reader B) (shrinks : (i : ℕ) → Shrinks (one i)) where
  same_step : (i : ℕ) (st : Step B) (f g : Text → Answer (List B)) → ((b : B) (rest : Text) → st ≡ took b rest → f rest ≡ g rest) → record_then i st f ≡ record_then i st g
  same_step i (took b rest) f g h = ap (with_first b) (h b rest refl)
  same_step i (no n) f g h = refl

  -- how many steps are allowed does not matter
  any-steps : (k m i : ℕ) (s : Text) → length s ≤ k → length s ≤ m → records_from one k i s ≡ records_from one m i s
  any-steps zero zero i s h g = refl
  any-steps zero (suc m) i [] h g = refl
  any-steps zero (suc m) i (x ∷ s) h g = absurd (omega arith)
  any-steps (suc k) zero i [] h g = refl
  any-steps (suc k) zero i (x ∷ s) h g = absurd (omega arith)
  any-steps (suc k) (suc m) i [] h g = refl
  any-steps (suc k) (suc m) i (x ∷ s) h g =
      same_step i (one i (x ∷ s)) (λ rest. records_from one k (suc i) rest) (λ rest. records_from one m (suc i) rest)
      (λ b rest e. let l = shrinks i (x ∷ s) b rest e in any-steps k m (suc i) rest (omega arith) (omega arith))

  -- at the end of a text there are no records
  pub records-end : (i : ℕ) → records one i [] ≡ accepted []
  unfolding records
  records-end i = refl

  -- a record, then the records of what it leaves
  pub records-next : (i x : ℕ) (s : Text) → records one i (x ∷ s) ≡ record_then i (one i (x ∷ s)) (λ rest. records one (suc i) rest)
  unfolding records
  records-next i x s =
      same_step i (one i (x ∷ s)) (λ rest. records_from one (length s) (suc i) rest) (λ rest. records_from one (length rest) (suc i) rest)
      (λ b rest e. let l = shrinks i (x ∷ s) b rest e in any-steps (length s) (length rest) (suc i) rest (omega arith) (omega arith))

-- a list is read record by record
pub record-by-record : {B : Type 0} (one : ℕ → Reader B) → ((i : ℕ) → Shrinks (one i)) → RecordByRecord one
record-by-record one shrinks = record { at-end = records-end one shrinks; next = records-next one shrinks }

-- all three lists are
pub lists-record-by-record : ListsRecordByRecord
lists-record-by-record = ((λ op. record-by-record (spec_record op) (specs-shrink op)), record-by-record item_record items-shrink, (λ specs. record-by-record (row_record specs) (rows-shrink specs)))

-- a list within its limit is its records
pub list-records : {B : Type 0} (limit : ℕ) (one : ℕ → Reader B) (s : Text) → length s ≤ limit → read_list limit one s ≡ records one 0 s
unfolding read_list records
list-records limit one s h = rw (le-leb (length s) limit h)
