-- The part that a source view hands back has the bytes of the item's name, or the digits as the spec spells them. Assumes nothing.
use mathlib.Core.Path.{◌≡◌, refl, sym, ap, ◌∙◌, subst}
use mathlib.Core.Bool.{Bool, true, false, not, cond}
use mathlib.Core.List.{List, [], ◌∷◌, ◌++◌, append_assoc}
use mathlib.Core.Option.{Option, none, some}
use Prim.Native.Nat.{ℕ, zero, suc, ◌+◌, ◌-◌, ◌*◌}
use native.Mathlib.Omega.{arith}
use borrow.Author.Tests.{eqb-true}
use lib.Dec.{eqb, leb, ltb}
use lib.ListN.{length, take, drop, length-append, take-append-drop}
use lib.Seq.{take-append_seam, drop-append_seam}
use Rattle.meaning.specs.Bytes.{Text, bytes, ◌and◌, every, same, hex_digit, object_id}
use Rattle.meaning.specs.Limits.{name_bytes, spec_list_bytes, item_list_bytes, spec_count, item_count, number_groups, id_digits}
use Rattle.meaning.specs.Spec.{Answer, accepted, refused, Mode, Normal, Force, Negative, Spec, is_negative, mode_of_byte, mode_of, sign_off, unsigned, sides_of, left, supplied, named, source_of, spec_from, spec_of, read_spec}
use Rattle.meaning.specs.Number.{Step, took, no, Reader, step_then, ◌>>=◌, give, need, group_before, read_groups, read_number, read_bytes, read_text}
use Rattle.meaning.specs.Lists.{with_first, record_then, records_from, read_list, answered, spec_record, item_record, read_specs, read_items}
use Rattle.meaning.specs.Match.{object_source}
use Rattle.meaning.specs.View.{Part, left_by, from_record, nth, digits_part, item_part, view_of, source_view, part_text}
use Rattle.promises.specs.Facts.{Viewed, ViewSpells}
use Rattle.promises.proofs.Laws.{and_left}
use Rattle.promises.proofs.Splitting.{sides-begin, unsigned-append}
use Rattle.promises.proofs.Members.{need-yes, step-took, answered-took, specs-list}
use Rattle.promises.proofs.Accepted.{read-passed}
use Rattle.promises.proofs.Listings.{object-source}

-- what a reading leaves is the end of what it read

groups-left : (k : ℕ) (s : Text) (n : ℕ) (r : Text) → read_groups k s ≡ took n r → (p : Text) × (s ≡ p ++ r)
groups-left zero s n r e = absurd (let z : ◌≡◌ {A = ℕ} 0 1 = cc in omega arith)
groups-left (suc k) [] n r e = absurd (let z : ◌≡◌ {A = ℕ} 0 1 = cc in omega arith)
groups-left (suc k) (b ∷ s) n r e = go (groups-left k s) (ltb b 128) e
  where
    same_rest : (m : ℕ) (u : Text) (c : Bool) → cond c (no 13) (took (b - 128 + m * 128) u) ≡ took n r → u ≡ r
    same_rest m u true p = absurd (let z : ◌≡◌ {A = ℕ} 0 1 = cc in omega arith)
    same_rest m u false p = cc

    go : ((m : ℕ) (u : Text) → read_groups k s ≡ took m u → (p : Text) × (s ≡ p ++ u)) → (c : Bool) → cond c (took b s) (step_then (read_groups k s) (group_before b)) ≡ took n r → (p : Text) × (b ∷ s ≡ p ++ r)
    go f true p = let u : s ≡ r = cc in (b ∷ [], ap (λ (x : Text). b ∷ x) u)
    go f false p =
        let q = step-took (read_groups k s) (group_before b) p in
        let g = f q.0 q.1 q.2 in
        let u : q.1 ≡ r = same_rest q.0 q.1 (eqb q.0 0) q.3 in
        (b ∷ g.0, ap (λ (x : Text). b ∷ x) (g.1 ∙ ap (λ (x : Text). g.0 ++ x) u))

number-left : (s : Text) (n : ℕ) (r : Text) → read_number s ≡ took n r → (p : Text) × (s ≡ p ++ r)
unfolding read_number
number-left s n r e = groups-left number_groups s n r e

bytes_left : (n : ℕ) (s t r : Text) → read_bytes n s ≡ took t r → s ≡ t ++ r
unfolding read_bytes
bytes_left n s t r e = go (leb n (length s)) e
  where
    go : (c : Bool) → cond c (took (take n s) (drop n s)) (no 13) ≡ took t r → s ≡ t ++ r
    go true p = let u : take n s ≡ t = cc in let v : drop n s ≡ r = cc in rw (u, v) at (sym (take-append-drop n s))
    go false p = absurd (let z : ◌≡◌ {A = ℕ} 0 1 = cc in omega arith)

-- a text that was read: it stands after its length
record TextAt (s t rest : Text) : Type 0 where
  length-bytes : Text
  all-is : s ≡ length-bytes ++ (t ++ rest)
  left_is : left_by (read_number s) ≡ t ++ rest

text_at_lem : (s t rest : Text) → read_text s ≡ took t rest → TextAt s t rest
unfolding read_text
text_at_lem s t rest e =
    let q = step-took (read_number s) read_bytes e in
    let n = number-left s q.0 q.1 q.2 in
    let b = bytes_left q.0 q.1 t rest q.3 in
    record { length-bytes = n.0; all-is = n.1 ∙ ap (λ (x : Text). n.0 ++ x) b; left_is = ap (left_by {A = ℕ}) q.2 ∙ b }

-- record j of a list is the text t
record Placed (s : Text) (j : ℕ) (t : Text) : Type 0 where
  before : Text
  after : Text
  all-is : s ≡ before ++ (t ++ after)
  left_is : from_record j s ≡ t ++ after

placed_first : (s t rest : Text) → read_text s ≡ took t rest → Placed s zero t
placed_first s t rest e = let a = text_at_lem s t rest e in record { before = a.length-bytes; after = rest; all-is = a.all-is; left_is = a.left_is }

placed-later : (s u rest : Text) (j : ℕ) (t : Text) → read_text s ≡ took u rest → Placed rest j t → Placed s (suc j) t
placed-later s u rest j t e p =
    let a = text_at_lem s u rest e in
    record {
      before = (a.length-bytes ++ u) ++ p.before;
      after = p.after;
      all-is = a.all-is ∙ sym (append_assoc a.length-bytes u rest) ∙ ap (λ (x : Text). (a.length-bytes ++ u) ++ x) p.all-is ∙ sym (append_assoc (a.length-bytes ++ u) p.before (t ++ p.after));
      left_is = ap (λ (x : Step Text). from_record j (left_by x)) e ∙ p.left_is;
    }

-- a record that is read from a text

module _ {B : Type 0} (one : ℕ → Reader B) (R : Text → B → Type 0) (reads : (i : ℕ) (s : Text) (b : B) (rest : Text) → one i s ≡ took b rest → (t : Text) × (read_text s ≡ took t rest) × R t b) where
  not_none : (j : ℕ) (b : B) → nth {A = B} [] j ≡ some b → ⊥
  not_none j b e = let z : ◌≡◌ {A = ℕ} 0 1 = cc in omega arith

  abbrev Found : Text → List B → Type 0
  Found s l = (j : ℕ) (b : B) → nth l j ≡ some b → (t : Text) × Placed s j t × R t b

  found_here : (i : ℕ) (s : Text) (b₀ : B) (rest : Text) (l : List B) → one i s ≡ took b₀ rest → Found rest l → Found s (b₀ ∷ l)
  found_here i s b₀ rest l e f zero b h =
      let r = reads i s b₀ rest e in
      let u : b₀ ≡ b = cc in
      (r.0, placed_first s r.0 rest r.1, subst (R r.0) u r.2)
  found_here i s b₀ rest l e f (suc j) b h =
      let r = reads i s b₀ rest e in
      let g = f j b h in
      (g.0, placed-later s r.0 rest j g.0 r.1 g.1, g.2)

  found-then : (i : ℕ) (s : Text) (b₀ : B) (rest : Text) → one i s ≡ took b₀ rest → (a : Answer (List B)) → ((l : List B) → a ≡ accepted l → Found rest l) → (l : List B) → with_first b₀ a ≡ accepted l → Found s l
  found-then i s b₀ rest e (accepted l₀) f l h = let u : b₀ ∷ l₀ ≡ l = cc in subst (Found s) u (found_here i s b₀ rest l₀ e (f l₀ refl))
  found-then i s b₀ rest e (refused n r) f l h = absurd (let z : ◌≡◌ {A = ℕ} 0 1 = cc in omega arith)

  found-step : (i : ℕ) (s : Text) (st : Step B) → one i s ≡ st → (g : Text → Answer (List B)) → ((rest : Text) (l : List B) → g rest ≡ accepted l → Found rest l) → (l : List B) → record_then i st g ≡ accepted l → Found s l
  found-step i s (took b rest) e g f l h = found-then i s b rest e (g rest) (f rest) l h
  found-step i s (no n) e g f l h = absurd (let z : ◌≡◌ {A = ℕ} 0 1 = cc in omega arith)

  found-end : (s : Text) (l : List B) → ◌≡◌ {A = Answer (List B)} (accepted []) (accepted l) → Found s l
  found-end s l e j b h = let u : [] ≡ l = cc in absurd (not_none j b (rw (← u) at h))

  found : (k i : ℕ) (s : Text) (l : List B) → records_from one k i s ≡ accepted l → Found s l
  found zero i [] l e = found-end [] l e
  found zero i (x ∷ s) l e = absurd (let z : ◌≡◌ {A = ℕ} 0 1 = cc in omega arith)
  found (suc k) i [] l e = found-end [] l e
  found (suc k) i (x ∷ s) l e = found-step i (x ∷ s) (one i (x ∷ s)) refl (λ rest. records_from one k (suc i) rest) (λ rest m h. found k (suc i) rest m h) l e

  -- a member of a list that is read stands in it as a text
  found-list : (limit : ℕ) (s : Text) (l : List B) → read_list limit one s ≡ accepted l → Found s l
  unfolding read_list
  found-list limit s l e = go (leb (length s) limit) e
    where
      go : (c : Bool) → cond c (records_from one (length s) 0 s) (refused 12 none) ≡ accepted l → Found s l
      go true p = found (length s) 0 s l p
      go false p = absurd (let z : ◌≡◌ {A = ℕ} 0 1 = cc in omega arith)

-- an item is its text
pub item-reads : (i : ℕ) (s : Text) (b : Text) (rest : Text) → item_record i s ≡ took b rest → (t : Text) × (read_text s ≡ took t rest) × (t ≡ b)
unfolding item_record
item-reads i s b rest e =
    let p : step_then (read_text s) (λ t. need 15 (leb (length t) name_bytes) (give t)) ≡ took b rest = rw (need-yes 14 (ltb i item_count) (read_text >>= λ t. need 15 (leb (length t) name_bytes) (give t)) s e) at e in
    let q = step-took (read_text s) (λ t. need 15 (leb (length t) name_bytes) (give t)) p in
    let y = need-yes 15 (leb (length q.0) name_bytes) (give q.0) q.1 q.3 in
    let g : took q.0 q.1 ≡ took b rest = rw y at q.3 in
    let u : q.0 ≡ b = cc in
    let v : q.1 ≡ rest = cc in
    (q.0, q.2 ∙ ap (λ (x : Text). took q.0 x) v, u)

-- a spec is read from its text
pub spec-reads : (op i : ℕ) (s : Text) (b : Spec) (rest : Text) → spec_record op i s ≡ took b rest → (t : Text) × (read_text s ≡ took t rest) × (read_spec op t ≡ accepted b)
unfolding spec_record
spec-reads op i s b rest e =
    let p : step_then (read_text s) (λ t. answered (read_spec op t)) ≡ took b rest = rw (need-yes 14 (ltb i spec_count) (read_text >>= λ t. answered (read_spec op t)) s e) at e in
    let q = step-took (read_text s) (λ t. answered (read_spec op t)) p in
    let a = answered-took (read_spec op q.0) q.1 q.3 in
    let g : took b q.1 ≡ took b rest = rw a at q.3 in
    let v : q.1 ≡ rest = cc in
    (q.0, q.2 ∙ ap (λ (x : Text). took q.0 x) v, a)

-- the bytes of a part

-- what stands so far before the end of a list, and so many bytes of it
part_bytes : (list before t after : Text) → list ≡ before ++ (t ++ after) → take (length t) (drop (length list - length (t ++ after)) list) ≡ t
part_bytes list before t after e =
    let n : length (before ++ (t ++ after)) - length (t ++ after) ≡ length before = omega (arith, length-append before (t ++ after)) in
    rw (e, n, drop-append_seam before (t ++ after), take-append_seam t after)

-- a text is a sign, or nothing, and the rest
unsigned_is : (t : Text) → (p : Text) × (t ≡ p ++ unsigned t)
unsigned_is [] = ([], refl)
unsigned_is (x ∷ t) = go (mode_of_byte x)
  where
    go : (m : Mode) → (p : Text) × (x ∷ t ≡ p ++ sign_off m x t)
    go Normal = ([], refl)
    go Force = (x ∷ [], refl)
    go Negative = (x ∷ [], refl)

-- a source of forty bytes is the side as it stands
source_is : (op : ℕ) (m : Mode) (l d : Text) → length d ≡ id_digits → source_of op m l ≡ some d → l ≡ d
unfolding supplied named
source_is op m [] d h e = go (eqb op 0 and not (is_negative m)) e
  where
    go : (b : Bool) → cond b (some (bytes "HEAD")) none ≡ some d → [] ≡ d
    go true p = let q : bytes "HEAD" ≡ d = cc in absurd (omega (arith, ap length q))
    go false p = absurd (let z : ◌≡◌ {A = ℕ} 0 1 = cc in omega arith)
source_is op m (x ∷ l) d h e = go (same (x ∷ l) (bytes "@")) e
  where
    go : (b : Bool) → some (cond b (bytes "HEAD") (x ∷ l)) ≡ some d → x ∷ l ≡ d
    go true p = let q : bytes "HEAD" ≡ d = cc in absurd (omega (arith, ap length q))
    go false p = cc

-- an object id has forty bytes
pub object-length : (d : Text) → object_id d ≡ true → length d ≡ id_digits
unfolding object_id
object-length d e = eqb-true (length d) id_digits (and_left (eqb (length d) id_digits) (every hex_digit d) e)

-- the digits of an object source begin its text after the sign
pub digits-begin : (op : ℕ) (t : Text) (s : Spec) (d : Text) → read_spec op t ≡ accepted s → object_source s ≡ some d → (rest : Text) × (unsigned t ≡ d ++ rest)
unfolding spec_of spec_from
digits-begin op t s d e o =
    let r = read-passed op t s e in
    let q = object-source s d o in
    let f : source_of op (mode_of t) (left (sides_of (unsigned t))) ≡ some d = ap (λ (x : Spec). x.source) r.spec_is_lem ∙ q.0 in
    let l : left (sides_of (unsigned t)) ≡ d = source_is op (mode_of t) (left (sides_of (unsigned t))) d (object-length d q.1) f in
    let b = sides-begin (unsigned t) in
    (b.0, b.1 ∙ ap (λ (x : Text). x ++ b.0) l)

-- so they do in the list
digits_in : (d rest after : Text) → length d ≡ id_digits → (t : Text) → unsigned t ≡ d ++ rest → unsigned (t ++ after) ≡ d ++ (rest ++ after)
digits_in d rest after h [] e = absurd (omega (arith, ap length e, length-append d rest))
digits_in d rest after h (x ∷ t) e = unsigned-append x t after ∙ ap (λ (k : Text). k ++ after) e ∙ append_assoc d rest after

-- the view of an item

accepted-is : {A : Type 0} {a b : A} → accepted a ≡ accepted b → a ≡ b
accepted-is e = cc

pub refused-not : {A : Type 0} {n : ℕ} {r : Option ℕ} {a : A} → refused n r ≡ accepted a → ⊥
refused-not e = let z : ◌≡◌ {A = ℕ} 0 1 = cc in omega arith

module _ (specs items : Text) (p : Part) where
  item-view : (names : List Text) (j : ℕ) → read_items items ≡ accepted names → (o : Option Text) → nth names j ≡ o → item_part items j o ≡ accepted p → nth names j ≡ some (part_text p specs items)
  unfolding read_items
  item-view names j f none n e = absurd (refused-not e)
  item-view names j f (some t) n e =
      let g = found-list item_record (λ u v. u ≡ v) item-reads item_list_bytes items names f j t n in
      let k = g.1 in
      let a : items ≡ k.before ++ (t ++ k.after) = k.all-is ∙ ap (λ (x : Text). k.before ++ (x ++ k.after)) g.2 in
      let l : from_record j items ≡ t ++ k.after = k.left_is ∙ ap (λ (x : Text). x ++ k.after) g.2 in
      let b : take (length t) (drop (length items - length (from_record j items)) items) ≡ t = ap (λ (x : Text). take (length t) (drop (length items - length x) items)) l ∙ part_bytes items k.before t k.after a in
      n ∙ ap {B = Option Text} some (sym b ∙ ap (λ (x : Part). part_text x specs items) (accepted-is e))

  digits-view : (op : ℕ) (group : List Spec) (i : ℕ) → read_specs op specs ≡ accepted group → (s : Spec) → nth group i ≡ some s → (o : Option Text) → object_source s ≡ o → digits_part specs i o ≡ accepted p → object_source s ≡ some (part_text p specs items)
  digits-view op group i f s n none q e = absurd (refused-not e)
  digits-view op group i f s n (some d) q e =
      let g = found-list (spec_record op) (λ t b. read_spec op t ≡ accepted b) (spec-reads op) spec_list_bytes specs group (specs-list op specs group f) i s n in
      let t = g.0 in
      let k = g.1 in
      let h = object-length d (object-source s d q).1 in
      let w = digits-begin op t s d g.2 q in
      let v : unsigned (t ++ k.after) ≡ d ++ (w.0 ++ k.after) = digits_in d w.0 k.after h t w.1 in
      let y = unsigned_is (t ++ k.after) in
      let a : specs ≡ (k.before ++ y.0) ++ (d ++ (w.0 ++ k.after)) = k.all-is ∙ ap (λ (x : Text). k.before ++ x) (y.1 ∙ ap (λ (x : Text). y.0 ++ x) v) ∙ sym (append_assoc k.before y.0 (d ++ (w.0 ++ k.after))) in
      let l : unsigned (from_record i specs) ≡ d ++ (w.0 ++ k.after) = ap unsigned k.left_is ∙ v in
      let b : take (length d) (drop (length specs - length (unsigned (from_record i specs))) specs) ≡ d = ap (λ (x : Text). take (length d) (drop (length specs - length x) specs)) l ∙ part_bytes specs (k.before ++ y.0) d (w.0 ++ k.after) a in
      q ∙ ap {B = Option Text} some (sym b ∙ ap (λ (x : Part). part_text x specs items) (accepted-is e))

  view-spells-of : (op : ℕ) (group : List Spec) (names : List Text) (field i : ℕ) → read_specs op specs ≡ accepted group → read_items items ≡ accepted names → (o : Option Spec) → nth group i ≡ o → view_of specs items o names field i ≡ accepted p → Viewed group names field i (part_text p specs items)
  view-spells-of op group names zero i f h none n e = absurd (refused-not e)
  view-spells-of op group names zero i f h (some s) n e = (s, n, digits-view op group i f s n (object_source s) refl e)
  view-spells-of op group names (suc j) i f h none n e = absurd (refused-not e)
  view-spells-of op group names (suc j) i f h (some s) n e = item-view names j h (nth names j) refl e

-- the part of a view that is accepted has the bytes that it is to have
pub view-spells : ViewSpells
unfolding source_view
view-spells op specs items field i p group names f h e = view-spells-of specs items p op group names field i f h (nth group i) refl (rw (f, h) at e)
