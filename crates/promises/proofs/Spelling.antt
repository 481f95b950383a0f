-- A list that is read is the bytes of what it is read as: numbers, texts, items and rows have one spelling, and a spec list is texts. Assumes nothing.
use mathlib.Core.Path.{◌≡◌, refl, sym, ap, ◌∙◌}
use mathlib.Core.Logic.{◌⊎◌, inl, inr}
use mathlib.Core.Bool.{Bool, true, false, cond}
use mathlib.Core.List.{List, [], ◌∷◌, ◌++◌, append_assoc}
use mathlib.Core.Option.{Option, none, some}
use Prim.Native.Nat.{ℕ, zero, suc, ◌+◌, ◌-◌, ◌*◌, ◌/◌, ◌%◌, ◌≤◌, ◌<◌}
use native.Mathlib.Omega.{arith}
use borrow.Author.Tests.{le-ltb, ltb-true, ltb-false, leb-true, eqb-true, eqb-false}
use lib.Dec.{eqb, leb, ltb}
use lib.ListN.{length, take, drop, take-append-drop, length-append, length-drop}
use Rattle.meaning.specs.Bytes.{Text, ◌and◌, ◌or◌, every, each, In}
use Rattle.meaning.specs.Limits.{name_bytes, spec_list_bytes, item_list_bytes, row_list_bytes, spec_count, item_count, number_groups}
use Rattle.meaning.specs.Spec.{Answer, accepted, refused, Spec, read_spec}
use Rattle.meaning.specs.Number.{groups, number_bytes, text_bytes, record_bytes, Step, took, no, Reader, step_then, ◌>>=◌, give, need, group_before, read_groups, read_number, read_bytes, read_text}
use Rattle.meaning.specs.Lists.{with_first, record_then, records_from, read_list, answered, spec_record, item_record, read_specs, read_items}
use Rattle.meaning.specs.Rows.{Row, destination_bytes, row_bytes, row_list_of, destination_after, read_destination, read_front, read_row, row_passes, row_record, read_rows}
use Rattle.promises.specs.Facts.{is_byte, EachRead, OneSpelling, ReadRowFits, ReadRowsFit}
use Rattle.promises.proofs.Laws.{and_left, and_right, or_cases, every-right, each_long}
use Rattle.promises.proofs.Reading.{number-long, list_all}
use Rattle.promises.proofs.ReadBack.{row-length}
use Rattle.promises.proofs.Members.{need-yes, step-took, answered-took, specs-list}

-- what is left of bytes is bytes
bytes_after : (all p s : Text) → every is_byte all ≡ true → all ≡ p ++ s → every is_byte s ≡ true
bytes_after all p s e q = every-right is_byte p s (rw q at e)

-- a group before a number: the digits of both
group-spelled : (k b m n : ℕ) (s r : Text) → 128 ≤ b → b < 256 → (m ≡ 0 → ⊥) → b - 128 + m * 128 ≡ n → s ≡ groups k m ++ r → b ∷ s ≡ groups (suc k) n ++ r
group-spelled k b m n s r h g z e q =
    let a : 128 ≤ n = omega arith in
    let c : 128 + n % 128 ≡ b = omega arith in
    let d : n / 128 ≡ m = omega arith in
    rw (le-ltb n 128 a, c, d) (ap (λ (x : Text). b ∷ x) q)

-- a number of at most k groups
groups-spelled : (k : ℕ) (s : Text) (n : ℕ) (r : Text) → every is_byte s ≡ true → read_groups k s ≡ took n r → s ≡ groups k n ++ r
groups-spelled zero s n r h e = absurd (let z : ◌≡◌ {A = ℕ} 0 1 = cc in omega arith)
groups-spelled (suc k) [] n r h e = absurd (let z : ◌≡◌ {A = ℕ} 0 1 = cc in omega arith)
groups-spelled (suc k) (b ∷ s) n r h e = go (groups-spelled k s) (ltb b 128) refl e
  where
    small : b < 256
    small = ltb-true b 256 (and_left (is_byte b) (every is_byte s) h)

    more : (m : ℕ) (u : Text) → 128 ≤ b → s ≡ groups k m ++ u → (c : Bool) → eqb m 0 ≡ c → cond c (no 13) (took (b - 128 + m * 128) u) ≡ took n r → b ∷ s ≡ groups (suc k) n ++ r
    more m u l q true z p = absurd (let z : ◌≡◌ {A = ℕ} 0 1 = cc in omega arith)
    more m u l q false z p =
        let v : b - 128 + m * 128 ≡ n = cc in
        let w : u ≡ r = cc in
        group-spelled k b m n s r l small (eqb-false m 0 z) v (q ∙ ap (λ (x : Text). groups k m ++ x) w)

    go : ((m : ℕ) (u : Text) → every is_byte s ≡ true → read_groups k s ≡ took m u → s ≡ groups k m ++ u) → (c : Bool) → ltb b 128 ≡ c → cond c (took b s) (step_then (read_groups k s) (group_before b)) ≡ took n r → b ∷ s ≡ groups (suc k) n ++ r
    go f true q p = let v : b ≡ n = cc in let w : s ≡ r = cc in rw (← v, q, w)
    go f false q p =
        let t = step-took (read_groups k s) (group_before b) p in
        more t.0 t.1 (ltb-false b 128 q) (f t.0 t.1 (and_right (is_byte b) (every is_byte s) h) t.2) (eqb t.0 0) refl t.3

-- a number
pub number_spelled : (s : Text) (n : ℕ) (r : Text) → every is_byte s ≡ true → read_number s ≡ took n r → s ≡ number_bytes n ++ r
unfolding read_number number_bytes
number_spelled s n r h e = groups-spelled number_groups s n r h e

-- so many bytes
pub bytes-spelled : (n : ℕ) (s t r : Text) → read_bytes n s ≡ took t r → (s ≡ t ++ r) × (length t ≡ n)
unfolding read_bytes
bytes-spelled n s t r e = go (leb n (length s)) refl e
  where
    go : (c : Bool) → leb n (length s) ≡ c → cond c (took (take n s) (drop n s)) (no 13) ≡ took t r → (s ≡ t ++ r) × (length t ≡ n)
    go false q p = absurd (let z : ◌≡◌ {A = ℕ} 0 1 = cc in omega arith)
    go true q p =
        let u : take n s ≡ t = cc in
        let v : drop n s ≡ r = cc in
        let l : n ≤ length s = leb-true n (length s) q in
        let k : length (take n s) ≡ n = omega (arith, ap length (take-append-drop n s), length-append (take n s) (drop n s), length-drop n s) in
        (rw (u, v) at (sym (take-append-drop n s)), rw u at k)

-- a text
pub text-spelled : (s t r : Text) → every is_byte s ≡ true → read_text s ≡ took t r → s ≡ text_bytes t ++ r
unfolding read_text text_bytes
text-spelled s t r h e =
    let q = step-took (read_number s) read_bytes e in
    let a = number_spelled s q.0 q.1 h q.2 in
    let b = bytes-spelled q.0 q.1 t r q.3 in
    a ∙ ap (λ (x : Text). number_bytes q.0 ++ x) b.0 ∙ ap (λ (x : ℕ). number_bytes x ++ (t ++ r)) (sym b.1) ∙ sym (append_assoc (number_bytes (length t)) t r)

-- a destination
destination-spelled : (s : Text) (o : Option Text) (r : Text) → every is_byte s ≡ true → read_destination s ≡ took o r → s ≡ destination_bytes o ++ r
unfolding read_destination
destination-spelled s o r h e = let q = step-took (read_number s) destination_after e in go q.0 q.1 (number_spelled s q.0 q.1 h q.2) q.3
  where
    go : (n : ℕ) (u : Text) → s ≡ number_bytes n ++ u → destination_after n u ≡ took o r → s ≡ destination_bytes o ++ r
    go zero u a p = let v : none ≡ o = cc in let w : u ≡ r = cc in a ∙ rw (← v, w)
    go (suc n) u a p =
        let q = step-took (read_bytes n u) (λ t. give (some t)) p in
        let b = bytes-spelled n u q.0 q.1 q.2 in
        let v : some q.0 ≡ o = cc in
        let w : q.1 ≡ r = cc in
        let c : u ≡ q.0 ++ r = b.0 ∙ ap (λ (x : Text). q.0 ++ x) w in
        a ∙ ap (λ (x : Text). number_bytes (suc n) ++ x) c ∙ ap (λ (x : ℕ). number_bytes (suc x) ++ (q.0 ++ r)) (sym b.1) ∙ sym (append_assoc (number_bytes (suc (length q.0))) q.0 r) ∙ ap (λ (x : Option Text). destination_bytes x ++ r) v

-- a row
pub row-spelled : (s : Text) (x : Row) (r : Text) → every is_byte s ≡ true → read_row s ≡ took x r → s ≡ row_bytes x ++ r
unfolding read_row read_front row_bytes
row-spelled s x r h e =
    let p = step-took (read_number s) _ e in
    let a = number_spelled s p.0 p.1 h p.2 in
    let h1 = bytes_after s (number_bytes p.0) p.1 h a in
    let q = step-took (read_number p.1) _ p.3 in
    let b = number_spelled p.1 q.0 q.1 h1 q.2 in
    let h2 = bytes_after p.1 (number_bytes q.0) q.1 h1 b in
    let t = step-took (read_number q.1) _ q.3 in
    let c = number_spelled q.1 t.0 t.1 h2 t.2 in
    let h3 = bytes_after q.1 (number_bytes t.0) t.1 h2 c in
    let u = step-took (read_text t.1) _ t.3 in
    let d = text-spelled t.1 u.0 u.1 h3 u.2 in
    let h4 = bytes_after t.1 (text_bytes u.0) u.1 h3 d in
    let v = step-took (read_destination u.1) _ u.3 in
    let f = destination-spelled u.1 v.0 v.1 h4 v.2 in
    row_of s x r p.0 q.0 t.0 u.0 v.0 p.1 q.1 t.1 u.1 v.1 a b c d f v.3
  where
    row_of : (s : Text) (x : Row) (r : Text) (i sp k : ℕ) (src : Text) (dst : Option Text) (s1 s2 s3 s4 s5 : Text) → s ≡ number_bytes i ++ s1 → s1 ≡ number_bytes sp ++ s2 → s2 ≡ number_bytes k ++ s3 → s3 ≡ text_bytes src ++ s4 → s4 ≡ destination_bytes dst ++ s5 → took (record { item = i; spec = sp; kind = k; source = src; destination = dst }) s5 ≡ took x r → s ≡ (number_bytes x.item ++ (number_bytes x.spec ++ (number_bytes x.kind ++ (text_bytes x.source ++ destination_bytes x.destination)))) ++ r
    row_of s x r i sp k src dst s1 s2 s3 s4 s5 a b c d f g =
        let y : record { item = i; spec = sp; kind = k; source = src; destination = dst } ≡ x = cc in
        let z : s5 ≡ r = cc in
        rw (← y, ← z, a, b, c, d, f) (simp append_assoc)

-- a list of records that have one spelling
module _ {B : Type 0} (one : ℕ → Reader B) (w : B → Text) (spelled : (i : ℕ) (s : Text) (b : B) (rest : Text) → every is_byte s ≡ true → one i s ≡ took b rest → s ≡ w b ++ rest) where
  then-spelled : (s : Text) (b : B) (rest : Text) → s ≡ w b ++ rest → (a : Answer (List B)) → ((m : List B) → a ≡ accepted m → rest ≡ each m w) → (l : List B) → with_first b a ≡ accepted l → s ≡ each l w
  then-spelled s b rest q (accepted m) f l e = let u : b ∷ m ≡ l = cc in q ∙ ap (λ (x : Text). w b ++ x) (f m refl) ∙ ap (λ (x : List B). each x w) u
  then-spelled s b rest q (refused n r) f l e = absurd (let z : ◌≡◌ {A = ℕ} 0 1 = cc in omega arith)

  step-spelled : (i : ℕ) (s : Text) → every is_byte s ≡ true → (st : Step B) → one i s ≡ st → (g : Text → Answer (List B)) → ((rest : Text) (m : List B) → every is_byte rest ≡ true → g rest ≡ accepted m → rest ≡ each m w) → (l : List B) → record_then i st g ≡ accepted l → s ≡ each l w
  step-spelled i s h (took b rest) e g f l p = let q = spelled i s b rest h e in then-spelled s b rest q (g rest) (λ m k. f rest m (bytes_after s (w b) rest h q) k) l p
  step-spelled i s h (no n) e g f l p = absurd (let z : ◌≡◌ {A = ℕ} 0 1 = cc in omega arith)

  end-spelled : (l : List B) → ◌≡◌ {A = Answer (List B)} (accepted []) (accepted l) → [] ≡ each l w
  end-spelled l e = let u : [] ≡ l = cc in ap (λ (x : List B). each x w) u

  records-spelled : (k i : ℕ) (s : Text) (l : List B) → every is_byte s ≡ true → records_from one k i s ≡ accepted l → s ≡ each l w
  records-spelled zero i [] l h e = end-spelled l e
  records-spelled zero i (x ∷ s) l h e = absurd (let z : ◌≡◌ {A = ℕ} 0 1 = cc in omega arith)
  records-spelled (suc k) i [] l h e = end-spelled l e
  records-spelled (suc k) i (x ∷ s) l h e = step-spelled i (x ∷ s) h (one i (x ∷ s)) refl (λ rest. records_from one k (suc i) rest) (λ rest m g p. records-spelled k (suc i) rest m g p) l e

  list-spelled : (limit : ℕ) (s : Text) (l : List B) → every is_byte s ≡ true → read_list limit one s ≡ accepted l → s ≡ each l w
  unfolding read_list
  list-spelled limit s l h e = go (leb (length s) limit) e
    where
      go : (c : Bool) → cond c (records_from one (length s) 0 s) (refused 12 none) ≡ accepted l → s ≡ each l w
      go true p = records-spelled (length s) 0 s l h p
      go false p = absurd (let z : ◌≡◌ {A = ℕ} 0 1 = cc in omega arith)

-- an item
item-spelled : (i : ℕ) (s b rest : Text) → every is_byte s ≡ true → item_record i s ≡ took b rest → s ≡ text_bytes b ++ rest
unfolding item_record
item-spelled i s b rest h e =
    let p : step_then (read_text s) (λ t. need 15 (leb (length t) name_bytes) (give t)) ≡ took b rest = rw (need-yes 14 (ltb i item_count) (read_text >>= λ t. need 15 (leb (length t) name_bytes) (give t)) s e) at e in
    let q = step-took (read_text s) (λ t. need 15 (leb (length t) name_bytes) (give t)) p in
    let y = need-yes 15 (leb (length q.0) name_bytes) (give q.0) q.1 q.3 in
    let g : took q.0 q.1 ≡ took b rest = rw y at q.3 in
    let u : q.0 ≡ b = cc in
    let v : q.1 ≡ rest = cc in
    text-spelled s q.0 q.1 h q.2 ∙ ap (λ (x : Text). text_bytes x ++ q.1) u ∙ ap (λ (x : Text). text_bytes b ++ x) v

-- a row of a list
pub row-record-spelled : (specs i : ℕ) (s : Text) (b : Row) (rest : Text) → every is_byte s ≡ true → row_record specs i s ≡ took b rest → s ≡ row_bytes b ++ rest
unfolding row_record
row-record-spelled specs i s b rest h e =
    let q = step-took (read_row s) (λ r. need 16 (row_passes specs r) (give r)) e in
    let y = need-yes 16 (row_passes specs q.0) (give q.0) q.1 q.3 in
    let g : took q.0 q.1 ≡ took b rest = rw y at q.3 in
    let u : q.0 ≡ b = cc in
    let v : q.1 ≡ rest = cc in
    row-spelled s q.0 q.1 h q.2 ∙ ap (λ (x : Row). row_bytes x ++ q.1) u ∙ ap (λ (x : Text). row_bytes b ++ x) v

-- an answer on a record leaves what follows it
pub answered-left : {A : Type 0} (x : Answer A) (s : Text) {b : A} {rest : Text} → answered x s ≡ took b rest → s ≡ rest
answered-left (accepted a) s e = cc
answered-left (refused n r) s e = absurd (let z : ◌≡◌ {A = ℕ} 0 1 = cc in omega arith)

-- a spec of a list: its text, which is read as it
spec-spelled : (op i : ℕ) (s : Text) (b : Spec) (rest : Text) → every is_byte s ≡ true → spec_record op i s ≡ took b rest → (t : Text) × (s ≡ text_bytes t ++ rest) × (read_spec op t ≡ accepted b)
unfolding spec_record
spec-spelled op i s b rest h e =
    let p : step_then (read_text s) (λ t. answered (read_spec op t)) ≡ took b rest = rw (need-yes 14 (ltb i spec_count) (read_text >>= λ t. answered (read_spec op t)) s e) at e in
    let q = step-took (read_text s) (λ t. answered (read_spec op t)) p in
    (q.0, text-spelled s q.0 q.1 h q.2 ∙ ap (λ (x : Text). text_bytes q.0 ++ x) (answered-left (read_spec op q.0) q.1 q.3), answered-took (read_spec op q.0) q.1 q.3)

-- the texts of a spec list that is read
record SpecTexts (op : ℕ) (s : Text) (group : List Spec) : Type 0 where
  texts : List Text
  is : s ≡ each texts text_bytes
  read : EachRead op texts group

no-texts : (op : ℕ) (group : List Spec) → ◌≡◌ {A = Answer (List Spec)} (accepted []) (accepted group) → SpecTexts op [] group
no-texts op group e = let u : [] ≡ group = cc in rw (← u) (record { texts = []; is = refl; read = tt })

then-texts : (op : ℕ) (s : Text) (b : Spec) (rest t : Text) → s ≡ text_bytes t ++ rest → read_spec op t ≡ accepted b → (a : Answer (List Spec)) → ((m : List Spec) → a ≡ accepted m → SpecTexts op rest m) → (group : List Spec) → with_first b a ≡ accepted group → SpecTexts op s group
then-texts op s b rest t q r (accepted m) f group e =
    let u : b ∷ m ≡ group = cc in
    let k = f m refl in
    rw (← u) (record { texts = t ∷ k.texts; is = q ∙ ap (λ (x : Text). text_bytes t ++ x) k.is; read = (r, k.read) })
then-texts op s b rest t q r (refused n i) f group e = absurd (let z : ◌≡◌ {A = ℕ} 0 1 = cc in omega arith)

step-texts : (op i : ℕ) (s : Text) → every is_byte s ≡ true → (st : Step Spec) → spec_record op i s ≡ st → (g : Text → Answer (List Spec)) → ((rest : Text) (m : List Spec) → every is_byte rest ≡ true → g rest ≡ accepted m → SpecTexts op rest m) → (group : List Spec) → record_then i st g ≡ accepted group → SpecTexts op s group
step-texts op i s h (took b rest) e g f group p = let q = spec-spelled op i s b rest h e in then-texts op s b rest q.0 q.1 q.2 (g rest) (λ m k. f rest m (bytes_after s (text_bytes q.0) rest h q.1) k) group p
step-texts op i s h (no n) e g f group p = absurd (let z : ◌≡◌ {A = ℕ} 0 1 = cc in omega arith)

records-texts : (op k i : ℕ) (s : Text) (group : List Spec) → every is_byte s ≡ true → records_from (spec_record op) k i s ≡ accepted group → SpecTexts op s group
records-texts op zero i [] group h e = no-texts op group e
records-texts op zero i (x ∷ s) group h e = absurd (let z : ◌≡◌ {A = ℕ} 0 1 = cc in omega arith)
records-texts op (suc k) i [] group h e = no-texts op group e
records-texts op (suc k) i (x ∷ s) group h e = step-texts op i (x ∷ s) h (spec_record op i (x ∷ s)) refl (λ rest. records_from (spec_record op) k (suc i) rest) (λ rest m g p. records-texts op k (suc i) rest m g p) group e

specs-spelled : (op : ℕ) (s : Text) (group : List Spec) → every is_byte s ≡ true → read_specs op s ≡ accepted group → (texts : List Text) × (s ≡ record_bytes texts) × EachRead op texts group
unfolding read_list record_bytes
specs-spelled op s group h e = let k = go (leb (length s) spec_list_bytes) (specs-list op s group e) in (k.texts, k.is, k.read)
  where
    go : (c : Bool) → cond c (records_from (spec_record op) (length s) 0 s) (refused 12 none) ≡ accepted group → SpecTexts op s group
    go true p = records-texts op (length s) 0 s group h p
    go false p = absurd (let z : ◌≡◌ {A = ℕ} 0 1 = cc in omega arith)

-- item lists and row lists have one spelling, and spec lists are texts
pub one-spelling : OneSpelling
unfolding read_items read_rows record_bytes row_list_of
one-spelling = (
  (λ s names h e. list-spelled item_record text_bytes item-spelled item_list_bytes s names h e),
  (λ specs s rows h e. list-spelled (row_record specs) row_bytes (row-record-spelled specs) row_list_bytes s rows h e),
  specs-spelled,
)

-- rows that are read fit

-- a row that was read passed question 16
row-passed : (specs i : ℕ) (s : Text) (b : Row) (rest : Text) → row_record specs i s ≡ took b rest → row_passes specs b ≡ true
unfolding row_record
row-passed specs i s b rest e =
    let q = step-took (read_row s) (λ r. need 16 (row_passes specs r) (give r)) e in
    let y = need-yes 16 (row_passes specs q.0) (give q.0) q.1 q.3 in
    let g : took q.0 q.1 ≡ took b rest = rw y at q.3 in
    let u : q.0 ≡ b = cc in
    rw u at y

-- a list that is read is within its limit
pub list-within : {B : Type 0} (limit : ℕ) (one : ℕ → Reader B) (s : Text) (l : List B) → read_list limit one s ≡ accepted l → length s ≤ limit
unfolding read_list
list-within limit one s l e = go (leb (length s) limit) refl e
  where
    go : (c : Bool) → leb (length s) limit ≡ c → cond c (records_from one (length s) 0 s) (refused 12 none) ≡ accepted l → length s ≤ limit
    go true q p = leb-true (length s) limit q
    go false q p = absurd (let z : ◌≡◌ {A = ℕ} 0 1 = cc in omega arith)

-- as many bytes as rows at least
rows-fewer : (rows : List Row) → length rows ≤ length (each rows row_bytes)
rows-fewer [] = omega arith
rows-fewer (r ∷ rows) = omega (arith, rows-fewer rows, row-length r, length-append (row_bytes r) (each rows row_bytes))

-- a kind that passed is 0 or 1
kind-of : (k : ℕ) (b : Bool) → (eqb k 0 or (eqb k 1 and b)) ≡ true → k ≤ 1
kind-of k b e = go (or_cases (eqb k 0) (eqb k 1 and b) e)
  where
    go : (eqb k 0 ≡ true) ⊎ ((eqb k 1 and b) ≡ true) → k ≤ 1
    go (inl p) = omega (arith, eqb-true k 0 p)
    go (inr p) = omega (arith, eqb-true k 1 (and_left (eqb k 1) b p))

-- a destination has fewer bytes than its spelling
destination-fewer : (o : Option Text) (d : Text) → o ≡ some d → length d < length (destination_bytes o)
destination-fewer none d e = absurd (let z : ◌≡◌ {A = ℕ} 0 1 = cc in omega arith)
destination-fewer (some t) d e = let u : t ≡ d = cc in omega (arith, ap length u, length-append (number_bytes (suc (length t))) t, number-long (suc (length t)))

-- every row of a row list fits
pub read-rows-fit : ReadRowsFit
unfolding read_rows row_passes row_list_of
read-rows-fit specs s rows h e = (fits, omega (arith, rows-fewer rows, ap length whole, within))
  where
    whole : s ≡ each rows row_bytes
    whole = list-spelled (row_record specs) row_bytes (row-record-spelled specs) row_list_bytes s rows h e

    within : length s ≤ row_list_bytes
    within = list-within row_list_bytes (row_record specs) s rows e

    fits : (r : Row) → In r rows → ReadRowFits specs r
    fits r m =
        let p = list_all (row_record specs) (λ x. row_passes specs x ≡ true) (row-passed specs) row_list_bytes s rows e r m in
        let a = and_left (ltb r.spec specs) _ p in
        let b = and_right (ltb r.spec specs) _ p in
        let n = row-length r in
        let l = each_long row_bytes m in
        let w = ap length whole in
        let k = within in
        record {
          spec-fits = ltb-true r.spec specs a;
          kind_fits = kind-of r.kind _ b;
          source_fits = omega arith;
          destination-fits = λ d q. let f = destination-fewer r.destination d q in omega arith;
        }
