-- What the members of an accepted list have, that what is written within the limits is read back, and that a longer list is refused.
use mathlib.Core.Path.{◌≡◌, refl, ap}
use mathlib.Core.Bool.{Bool, true, false, cond}
use mathlib.Core.List.{List, [], ◌∷◌, ◌++◌, map}
use mathlib.Core.Option.{none}
use Prim.Native.Nat.{ℕ, ◌≤◌, ◌<◌}
use native.Mathlib.Omega.{arith}
use borrow.Author.Tests.{lt-ltb, ltb-true, le-leb, lt-leb, leb-true}
use lib.Dec.{leb, ltb}
use lib.ListN.{length, length-append}
use Rattle.meaning.specs.Bytes.{Text, each, In}
use Rattle.meaning.specs.Limits.{spec_bytes, name_bytes, spec_list_bytes, item_list_bytes, row_list_bytes, spec_count, item_count}
use Rattle.meaning.specs.Spec.{Answer, accepted, refused, Spec, read_spec}
use Rattle.meaning.specs.Number.{number_bytes, text_bytes, record_bytes, Step, took, no, Reader, step_then, ◌>>=◌, give, need, read_text}
use Rattle.meaning.specs.Lists.{answered, read_list, spec_record, item_record, read_specs, read_items}
use Rattle.meaning.specs.Rows.{row_record, read_rows}
use Rattle.promises.proofs.Laws.{map_same}
use Rattle.promises.proofs.Reading.{read-text, number-long, records-read, list_all, list_count}

-- a need that let a record through was met
pub need-yes : {A : Type 0} (n : ℕ) (b : Bool) (r : Reader A) (s : Text) {a : A} {rest : Text} → need n b r s ≡ took a rest → b ≡ true
need-yes n true r s e = refl
need-yes n false r s e = cc

-- a step that went on had taken something
pub step-took : {A B : Type 0} (s : Step A) (f : A → Reader B) {b : B} {rest : Text} → step_then s f ≡ took b rest → (a : A) × (r : Text) × (s ≡ took a r) × (f a r ≡ took b rest)
step-took (took a r) f e = (a, r, refl, e)
step-took (no n) f e = absurd (let z : ◌≡◌ {A = ℕ} 0 1 = cc in omega arith)

-- what an answer on a record let through was accepted
pub answered-took : {A : Type 0} (x : Answer A) (s : Text) {b : A} {rest : Text} → answered x s ≡ took b rest → x ≡ accepted b
answered-took (accepted a) s e = cc
answered-took (refused n r) s e = absurd (let z : ◌≡◌ {A = ℕ} 0 1 = cc in omega arith)

-- the number of a spec that was read is below the limit
spec-number : (op j : ℕ) (s : Text) (b : Spec) (rest : Text) → spec_record op j s ≡ took b rest → j < spec_count
unfolding spec_record
spec-number op j s b rest e = ltb-true j spec_count (need-yes 14 (ltb j spec_count) (read_text >>= λ t. answered (read_spec op t)) s e)

-- so is an item's
item-number : (j : ℕ) (s : Text) (b : Text) (rest : Text) → item_record j s ≡ took b rest → j < item_count
unfolding item_record
item-number j s b rest e = ltb-true j item_count (need-yes 14 (ltb j item_count) _ s e)

-- the spec of a record was read from a text
spec-text : (op j : ℕ) (s : Text) (b : Spec) (rest : Text) → spec_record op j s ≡ took b rest → (t : Text) × (read_spec op t ≡ accepted b)
unfolding spec_record
spec-text op j s b rest e =
    let p : step_then (read_text s) (λ t. answered (read_spec op t)) ≡ took b rest = rw (need-yes 14 (ltb j spec_count) (read_text >>= λ t. answered (read_spec op t)) s e) at e in
    let q = step-took (read_text s) (λ t. answered (read_spec op t)) p in
    (q.0, answered-took (read_spec op q.0) q.1 q.3)

-- a spec list that is accepted passed question 18
pub specs-list : (op : ℕ) (specs : Text) (group : List Spec) → read_specs op specs ≡ accepted group → read_list spec_list_bytes (spec_record op) specs ≡ accepted group
unfolding read_specs
specs-list op specs group e = go (leb op 1) e
  where
    go : (b : Bool) → cond b (read_list spec_list_bytes (spec_record op) specs) (refused 18 none) ≡ accepted group → read_list spec_list_bytes (spec_record op) specs ≡ accepted group
    go true p = p
    go false p = absurd (let z : ◌≡◌ {A = ℕ} 0 1 = cc in omega arith)

-- a group has at most so many specs as a list may have
pub group-count : (op : ℕ) (specs : Text) (group : List Spec) → read_specs op specs ≡ accepted group → length group ≤ spec_count
group-count op specs group e = list_count (spec_record op) spec_count (spec-number op) spec_list_bytes specs group (specs-list op specs group e)

-- each spec of a group was read from a text
pub group-texts : (op : ℕ) (specs : Text) (group : List Spec) → read_specs op specs ≡ accepted group → (s : Spec) → In s group → (t : Text) × (read_spec op t ≡ accepted s)
group-texts op specs group e = list_all (spec_record op) (λ s. (t : Text) × (read_spec op t ≡ accepted s)) (spec-text op) spec_list_bytes specs group (specs-list op specs group e)

-- an item list has at most so many items
pub names-count : (items : Text) (names : List Text) → read_items items ≡ accepted names → length names ≤ item_count
unfolding read_items
names-count items names e = list_count item_record item_count item-number item_list_bytes items names e

-- the name of an item that was read is short enough
item-length : (j : ℕ) (s : Text) (b : Text) (rest : Text) → item_record j s ≡ took b rest → length b ≤ name_bytes
unfolding item_record
item-length j s b rest e =
    let p : step_then (read_text s) (λ t. need 15 (leb (length t) name_bytes) (give t)) ≡ took b rest = rw (need-yes 14 (ltb j item_count) (read_text >>= λ t. need 15 (leb (length t) name_bytes) (give t)) s e) at e in
    let q = step-took (read_text s) (λ t. need 15 (leb (length t) name_bytes) (give t)) p in
    let y = need-yes 15 (leb (length q.0) name_bytes) (give q.0) q.1 q.3 in
    let g : took q.0 q.1 ≡ took b rest = rw y at q.3 in
    let i : q.0 ≡ b = cc in
    rw (← i) (leb-true (length q.0) name_bytes y)

-- so is every name of an item list
pub names-short : (items : Text) (names : List Text) → read_items items ≡ accepted names → (t : Text) → In t names → length t ≤ name_bytes
unfolding read_items
names-short items names e = list_all item_record (λ t. length t ≤ name_bytes) item-length item_list_bytes items names e

-- what is written is read back

-- members' texts, one after the other, are those of the mapped members
each_map : {A B C : Type 0} (f : A → B) (w : B → List C) (l : List A) → each (map f l) w ≡ each l (λ x. w (f x))
each_map f w [] = refl
each_map f w (x ∷ l) = ap (λ k. w (f x) ++ k) (each_map f w l)

-- a text takes a byte at least
text-long : (t : Text) → 0 < length (text_bytes t)
unfolding text_bytes
text-long t = omega (arith, length-append (number_bytes (length t)) t, number-long (length t))

-- one spec of a list, within its limit
spec-record : (op j : ℕ) (t : Text) (s : Spec) (rest : Text) → j < spec_count → length t ≤ spec_bytes → read_spec op t ≡ accepted s → spec_record op j (text_bytes t ++ rest) ≡ took s rest
unfolding spec_record
spec-record op j t s rest h k e = rw (lt-ltb j spec_count h, read-text t rest (omega arith), e)

-- a list of texts that are read as specs is read as those specs, within its limits
pub specs-written : {A : Type 0} (op : ℕ) → op ≤ 1 → (text : A → Text) (value : A → Spec) (l : List A) → length l ≤ spec_count → ((x : A) → In x l → length (text x) ≤ spec_bytes) → ((x : A) → In x l → read_spec op (text x) ≡ accepted (value x)) → length (record_bytes (map text l)) ≤ spec_list_bytes → read_specs op (record_bytes (map text l)) ≡ accepted (map value l)
unfolding read_specs read_list record_bytes
specs-written op o text value l count short reads h =
    let e : each (map text l) text_bytes ≡ each l (λ x. text_bytes (text x)) = each_map text text_bytes l in
    rw (le-leb op 1 o, le-leb (length (each (map text l) text_bytes)) spec_list_bytes h, e)
    (records-read (spec_record op) (λ x. text_bytes (text x)) value l (length (each l (λ x. text_bytes (text x)))) 0 (λ x m. text-long (text x)) (λ x m j b rest. spec-record op j (text x) (value x) rest (omega arith) (short x m) (reads x m)) (omega arith))

-- one item of a list, within its limits
item-record : (j : ℕ) (t rest : Text) → j < item_count → length t ≤ name_bytes → item_record j (text_bytes t ++ rest) ≡ took t rest
unfolding item_record
item-record j t rest h k = rw (lt-ltb j item_count h, read-text t rest (omega arith), le-leb (length t) name_bytes k)

-- a list of names is read as those names, within its limits
pub items-written : (names : List Text) → length names ≤ item_count → ((t : Text) → In t names → length t ≤ name_bytes) → length (record_bytes names) ≤ item_list_bytes → read_items (record_bytes names) ≡ accepted names
unfolding read_items read_list record_bytes
items-written names count short h =
    rw (le-leb (length (each names text_bytes)) item_list_bytes h, records-read item_record text_bytes (λ t. t) names (length (each names text_bytes)) 0 (λ t m. text-long t) (λ t m j b rest. item-record j t rest (omega arith) (short t m)) (omega arith))
    (ap {B = Answer (List Text)} accepted (map_same names))

-- a list that is too long is refused, whatever is in it
list-long : {B : Type 0} (limit : ℕ) (one : ℕ → Reader B) (s : Text) → limit < length s → read_list limit one s ≡ refused 12 none
unfolding read_list
list-long limit one s h = rw (lt-leb (length s) limit h)

-- a spec list
pub specs-long : (op : ℕ) (s : Text) → op ≤ 1 → spec_list_bytes < length s → read_specs op s ≡ refused 12 none
unfolding read_specs
specs-long op s o h = rw (le-leb op 1 o) (list-long spec_list_bytes (spec_record op) s h)

-- an item list
pub items-long : (s : Text) → item_list_bytes < length s → read_items s ≡ refused 12 none
unfolding read_items
items-long s h = list-long item_list_bytes item_record s h

-- a row list
pub rows_long : (specs : ℕ) (s : Text) → row_list_bytes < length s → read_rows specs s ≡ refused 12 none
unfolding read_rows
rows_long specs s h = list-long row_list_bytes (row_record specs) s h
