-- No refusal has the number 0, so a call that tells 0 was not refused. Assumes nothing.
use Prim.Native.Nat.{ℕ, zero, suc, ◌<◌}
use native.Mathlib.Omega.{arith}
use mathlib.Core.Path.{◌≡◌, refl}
use mathlib.Core.Bool.{Bool, true, false, cond}
use mathlib.Core.List.{List, [], ◌∷◌}
use mathlib.Core.Option.{Option, none}
use lib.Dec.{eqb, leb, ltb}
use lib.ListN.{length}
use Rattle.meaning.specs.Bytes.{Text}
use Rattle.meaning.specs.Limits.{name_bytes, spec_list_bytes, item_list_bytes, row_list_bytes, spec_count, item_count, number_groups}
use Rattle.meaning.specs.Spec.{Answer, accepted, refused, unless, spec_of, spec_refusal, read_spec}
use Rattle.meaning.specs.Number.{Step, took, no, Reader, step_then, ◌>>=◌, give, need, group_before, read_groups, read_number, read_bytes, read_text}
use Rattle.meaning.specs.Lists.{with_first, record_then, records_from, read_list, answered, spec_record, item_record, read_specs, read_items}
use Rattle.meaning.specs.Rows.{destination_after, read_destination, read_front, read_row, row_passes, row_record, read_rows}
use Rattle.meaning.specs.Entries.{◌and_then◌, to_bstring, match_lhs, match_rhs, verdict_on, validated}

-- a step that refuses has a number above 0
abbrev StepAbove : {A : Type 0} → Step A → Type 0
StepAbove (took a rest) = Unit {0}
StepAbove (no n) = 0 < n

-- so has an answer that refuses
abbrev pub Above : {A : Type 0} → Answer A → Type 0
Above (accepted a) = Unit {0}
Above (refused n r) = 0 < n

-- steps

-- one after another
then-above : {A B : Type 0} (s : Step A) (f : A → Reader B) → StepAbove s → ((a : A) (rest : Text) → StepAbove (f a rest)) → StepAbove (step_then s f)
then-above (took a rest) f p q = q a rest
then-above (no n) f p q = p

-- one that is asked
need-above : {A : Type 0} (n : ℕ) (b : Bool) (r : Reader A) (s : Text) → 0 < n → StepAbove (r s) → StepAbove (need n b r s)
need-above n true r s h p = p
need-above n false r s h p = h

-- one that is chosen
cond_above : {A : Type 0} (b : Bool) (s t : Step A) → StepAbove s → StepAbove t → StepAbove (cond b s t)
cond_above true s t p q = p
cond_above false s t p q = q

-- a number
groups-above : (k : ℕ) (s : Text) → StepAbove (read_groups k s)
groups-above zero s = omega arith
groups-above (suc k) [] = omega arith
groups-above (suc k) (b ∷ s) = cond_above (ltb b 128) (took b s) _ tt (then-above (read_groups k s) (group_before b) (groups-above k s) (λ n rest. cond_above (eqb n 0) (no 13) _ (omega arith) tt))

number-above : (s : Text) → StepAbove (read_number s)
unfolding read_number
number-above s = groups-above number_groups s

-- bytes, and a text
bytes-above : (n : ℕ) (s : Text) → StepAbove (read_bytes n s)
unfolding read_bytes
bytes-above n s = cond_above (leb n (length s)) _ (no 13) tt (omega arith)

text-above : (s : Text) → StepAbove (read_text s)
unfolding read_text
text-above s = then-above (read_number s) read_bytes (number-above s) bytes-above

-- a spec
pub spec-above : (op : ℕ) (t : Text) → Above (read_spec op t)
unfolding read_spec
spec-above op t = go (spec_refusal op t)
  where
    go : (n : ℕ) → Above (unless n (spec_of op t))
    go zero = tt
    go (suc n) = omega arith

-- an answer on a record
answered-above : {A : Type 0} (a : Answer A) (s : Text) → Above a → StepAbove (answered a s)
answered-above (accepted a) s p = tt
answered-above (refused n r) s p = p

spec-record-above : (op j : ℕ) (s : Text) → StepAbove (spec_record op j s)
unfolding spec_record
spec-record-above op j s =
    need-above 14 (ltb j spec_count) (read_text >>= λ t. answered (read_spec op t)) s (omega arith) (then-above (read_text s) (λ t. answered (read_spec op t)) (text-above s) (λ t rest. answered-above (read_spec op t) rest (spec-above op t)))

item-record-above : (j : ℕ) (s : Text) → StepAbove (item_record j s)
unfolding item_record
item-record-above j s =
    need-above 14 (ltb j item_count) (read_text >>= λ t. need 15 (leb (length t) name_bytes) (give t)) s (omega arith) (then-above (read_text s) (λ t. need 15 (leb (length t) name_bytes) (give t)) (text-above s) (λ t rest. need-above 15 (leb (length t) name_bytes) (give t) rest (omega arith) tt))

-- a row
after-above : (n : ℕ) (s : Text) → StepAbove (destination_after n s)
after-above zero s = tt
after-above (suc n) s = then-above (read_bytes n s) _ (bytes-above n s) (λ t rest. tt)

destination-above : (s : Text) → StepAbove (read_destination s)
unfolding read_destination
destination-above s = then-above (read_number s) destination_after (number-above s) after-above

row-above : (s : Text) → StepAbove (read_row s)
unfolding read_row read_front
row-above s =
    then-above (read_number s) _ (number-above s) λ i a.
    then-above (read_number a) _ (number-above a) λ j b.
    then-above (read_number b) _ (number-above b) λ k c.
    then-above (read_text c) _ (text-above c) λ t d.
    then-above (read_destination d) _ (destination-above d) λ o e. tt

row-record-above : (specs j : ℕ) (s : Text) → StepAbove (row_record specs j s)
unfolding row_record
row-record-above specs j s = then-above (read_row s) (λ r. need 16 (row_passes specs r) (give r)) (row-above s) (λ r rest. need-above 16 (row_passes specs r) (give r) rest (omega arith) tt)

-- lists

module _ {B : Type 0} where
  first_above : (b : B) (a : Answer (List B)) → Above a → Above (with_first b a)
  first_above b (accepted l) p = tt
  first_above b (refused n r) p = p

  record-above : (i : ℕ) (s : Step B) (g : Text → Answer (List B)) → StepAbove s → ((t : Text) → Above (g t)) → Above (record_then i s g)
  record-above i (took b rest) g p q = first_above b (g rest) (q rest)
  record-above i (no n) g p q = p

module _ {B : Type 0} (one : ℕ → Reader B) (above : (j : ℕ) (s : Text) → StepAbove (one j s)) where
  records-above : (k i : ℕ) (s : Text) → Above (records_from one k i s)
  records-above zero i [] = tt
  records-above zero i (c ∷ s) = omega arith
  records-above (suc k) i [] = tt
  records-above (suc k) i (c ∷ s) = record-above i (one i (c ∷ s)) (λ rest. records_from one k (suc i) rest) (above i (c ∷ s)) (λ t. records-above k (suc i) t)

  list-above : (limit : ℕ) (s : Text) → Above (read_list limit one s)
  unfolding read_list
  list-above limit s = go (leb (length s) limit)
    where
      go : (b : Bool) → Above (cond b (records_from one (length s) 0 s) (refused 12 none))
      go true = records-above (length s) 0 s
      go false = omega arith

specs-above : (op : ℕ) (s : Text) → Above (read_specs op s)
unfolding read_specs
specs-above op s = go (leb op 1)
  where
    go : (b : Bool) → Above (cond b (read_list spec_list_bytes (spec_record op) s) (refused 18 none))
    go true = list-above (spec_record op) (spec-record-above op) spec_list_bytes s
    go false = omega arith

items_above : (s : Text) → Above (read_items s)
unfolding read_items
items_above s = list-above item_record item-record-above item_list_bytes s

rows_above : (specs : ℕ) (s : Text) → Above (read_rows specs s)
unfolding read_rows
rows_above specs s = list-above (row_record specs) (row-record-above specs) row_list_bytes s

-- entries

-- one answer after another
and_above : {A B : Type 0} (a : Answer A) (f : A → Answer B) → Above a → ((x : A) → Above (f x)) → Above (a and_then f)
and_above (accepted a) f p q = q a
and_above (refused n r) f p q = p

-- what is refused is not accepted
pub refused-accepted : {A : Type 0} {n : ℕ} {r : Option ℕ} {a : A} → refused n r ≡ accepted a → ⊥
refused-accepted e = let z : ◌≡◌ {A = ℕ} 0 1 = cc in omega arith

-- what was accepted went on from what was accepted
pub and-accepted : {A B : Type 0} (a : Answer A) (f : A → Answer B) {b : B} → (a and_then f) ≡ accepted b → (x : A) × (a ≡ accepted x) × (f x ≡ accepted b)
and-accepted (accepted a) f e = (a, refl, e)
and-accepted (refused n r) f e = absurd (refused-accepted e)

pub to-bstring-above : (op : ℕ) (t : Text) → Above (to_bstring op t)
unfolding to_bstring
to-bstring-above op t = and_above (read_spec op t) _ (spec-above op t) (λ s. tt)

pub match-lhs-above : (op : ℕ) (specs items : Text) → Above (match_lhs op specs items)
unfolding match_lhs
match-lhs-above op specs items = and_above (read_specs op specs) _ (specs-above op specs) (λ group. and_above (read_items items) _ (items_above items) (λ names. tt))

pub match-rhs-above : (op : ℕ) (specs items : Text) → Above (match_rhs op specs items)
unfolding match_rhs
match-rhs-above op specs items = and_above (read_specs op specs) _ (specs-above op specs) (λ group. and_above (read_items items) _ (items_above items) (λ names. tt))

pub validated-above : (op : ℕ) (specs list : Text) → Above (validated op specs list)
unfolding validated verdict_on
validated-above op specs list =
    and_above (verdict_on op specs list) _ (and_above (read_specs op specs) _ (specs-above op specs) (λ group. and_above (read_rows (length group) list) _ (rows_above (length group) list) (λ rows. tt))) (λ v. tt)
