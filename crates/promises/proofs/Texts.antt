-- A spec list of texts is read text by text, each as the spec in its place. Assumes nothing.
use Prim.Native.Nat.{ℕ, zero, suc, ◌≤◌, ◌<◌}
use native.Mathlib.Omega.{arith}
use mathlib.Core.Path.{◌≡◌, refl, ap, ◌∙◌}
use mathlib.Core.List.{List, [], ◌∷◌, ◌++◌}
use borrow.Author.Tests.{le-leb}
use lib.Dec.{ltb}
use lib.ListN.{length, length-append}
use Rattle.meaning.specs.Bytes.{Text, each, In, here, there}
use Rattle.meaning.specs.Limits.{spec_list_bytes, spec_count, largest_number}
use Rattle.meaning.specs.Spec.{Answer, accepted, refused, Spec, read_spec}
use Rattle.meaning.specs.Number.{number_bytes, text_bytes, record_bytes, Step, took, no, Reader, step_then, ◌>>=◌, read_text}
use Rattle.meaning.specs.Lists.{with_first, record_then, records_from, read_list, answered, spec_record, read_specs}
use Rattle.promises.specs.Facts.{EachRead}
use Rattle.promises.proofs.Laws.{each_long}
use Rattle.promises.proofs.Reading.{read-text, number-long}
use Rattle.promises.proofs.Members.{need-yes, answered-took, specs-list}
use Rattle.promises.proofs.Spelling.{answered-left, list-within}

-- a list that is read from a byte or more: its first record, what that left, and what was read of it
record Taken {B : Type 0} (one : ℕ → Reader B) (i : ℕ) (s : Text) (l : List B) : Type 0 where
  first : B
  left : Text
  later : List B
  steps : ℕ
  first-took : one i s ≡ took first left
  later-read : records_from one steps (suc i) left ≡ accepted later
  both : l ≡ first ∷ later

with-later : {B : Type 0} (b : B) (a : Answer (List B)) (l : List B) → with_first b a ≡ accepted l → (m : List B) × (a ≡ accepted m) × (l ≡ b ∷ m)
with-later b (accepted m) l e = (m, refl, cc)
with-later b (refused n r) l e = absurd (let z : ◌≡◌ {A = ℕ} 0 1 = cc in omega arith)

record-taken : {B : Type 0} (one : ℕ → Reader B) (k i : ℕ) (s : Text) (l : List B) (step : Step B) → one i s ≡ step → record_then i step (λ rest. records_from one k (suc i) rest) ≡ accepted l → Taken one i s l
record-taken one k i s l (took b rest) f e =
    let w = with-later b (records_from one k (suc i) rest) l e in
    record { first = b; left = rest; later = w.0; steps = k; first-took = f; later-read = w.1; both = w.2 }
record-taken one k i s l (no n) f e = absurd (let z : ◌≡◌ {A = ℕ} 0 1 = cc in omega arith)

records-taken : {B : Type 0} (one : ℕ → Reader B) (k i : ℕ) (s : Text) (l : List B) → 0 < length s → records_from one k i s ≡ accepted l → Taken one i s l
records-taken one k i [] l h e = absurd (omega arith)
records-taken one zero i (x ∷ s) l h e = absurd (let z : ◌≡◌ {A = ℕ} 0 1 = cc in omega arith)
records-taken one (suc k) i (x ∷ s) l h e = record-taken one k i (x ∷ s) l (one i (x ∷ s)) refl e

-- the spec of a record was read from the record's text
spec-taken : (i : ℕ) (t rest : Text) (b : Spec) (r : Text) → length t ≤ largest_number → spec_record 0 i (text_bytes t ++ rest) ≡ took b r → (read_spec 0 t ≡ accepted b) × (rest ≡ r)
unfolding spec_record
spec-taken i t rest b r h e =
    let y = need-yes 14 (ltb i spec_count) (read_text >>= λ u. answered (read_spec 0 u)) (text_bytes t ++ rest) e in
    let p : step_then (read_text (text_bytes t ++ rest)) (λ u. answered (read_spec 0 u)) ≡ took b r = rw y at e in
    let q : answered (read_spec 0 t) rest ≡ took b r = rw (read-text t rest h) at p in
    (answered-took (read_spec 0 t) rest q, answered-left (read_spec 0 t) rest q)

-- so for every record
texts-read : (texts : List Text) (k i : ℕ) (l : List Spec) → ((t : Text) → In t texts → length t ≤ largest_number) → records_from (spec_record 0) k i (each texts text_bytes) ≡ accepted l → EachRead 0 texts l
unfolding text_bytes
texts-read [] zero i l h e = let q : [] ≡ l = cc in rw (← q) tt
texts-read [] (suc k) i l h e = let q : [] ≡ l = cc in rw (← q) tt
texts-read (t ∷ texts) k i l h e =
    let n = number-long (length t) in
    let a = length-append (number_bytes (length t)) t in
    let b = length-append (text_bytes t) (each texts text_bytes) in
    let c = records-taken (spec_record 0) k i (text_bytes t ++ each texts text_bytes) l (omega arith) e in
    let s = spec-taken i t (each texts text_bytes) c.first c.left (h t here) c.first-took in
    rw c.both (s.0, texts-read texts c.steps (suc i) c.later (λ u m. h u (there m)) (ap (records_from (spec_record 0) c.steps (suc i)) s.1 ∙ c.later-read))

-- a spec list that is read
pub specs-texts : (texts : List Text) (group : List Spec) → read_specs 0 (record_bytes texts) ≡ accepted group → EachRead 0 texts group
unfolding record_bytes read_list text_bytes
specs-texts texts group e =
    let r = specs-list 0 (record_bytes texts) group e in
    let w = list-within spec_list_bytes (spec_record 0) (record_bytes texts) group r in
    texts-read texts (length (each texts text_bytes)) 0 group
    (λ t m. let a = each_long text_bytes m in let b = length-append (number_bytes (length t)) t in omega arith)
    (rw (le-leb (length (each texts text_bytes)) spec_list_bytes w) at r)
