-- Where the rows of a listing come from, and that they are there. Assumes nothing.
use mathlib.Core.Path.{◌≡◌, refl, sym, ap, ◌∙◌}
use mathlib.Core.Bool.{Bool, true, false, cond}
use mathlib.Core.List.{List, []}
use mathlib.Core.Option.{Option, none, some, map}
use Prim.Native.Nat.{ℕ, suc, ◌<◌}
use native.Mathlib.Omega.{arith}
use borrow.Author.Tests.{not-true}
use lib.ListN.{length}
use Rattle.meaning.specs.Bytes.{Text, bytes, ◌or◌, any, begins, each, numbered, object_id, In, here, there}
use Rattle.meaning.specs.Spec.{Spec, is_negative, starred}
use Rattle.meaning.specs.Rows.{Row}
use Rattle.meaning.specs.Match.{form_of, full, object, partial, plain_needle, form_needle, needle_of, object_in, object_by, object_source, Mapped, unmapped, mapped, forward, reverse}
use Rattle.meaning.specs.Listing.{Ends, ends_of, forward_ends, reverse_ends, name_row, name_rows, group_rows, object_row, excludes, not_excluded}
use Rattle.meaning.specs.View.{nth}
use Rattle.promises.proofs.Laws.{in-each, each_in, numbered-in, numbered-place, in-numbered}
use Rattle.promises.proofs.Captures.{form-plain, form-starred}

-- the ends that a row has
abbrev pub row_ends : Row → Ends
row_ends r = record { source = r.source; destination = r.destination }

-- a row of a group: its spec and its item, and the ends that the spec makes of the item's name
pub record FromGroup (make : Spec → Text → Option Ends) (group : List Spec) (names : List Text) (r : Row) : Type 0 where
  pub spec : Spec
  pub spec-in : In spec group
  pub spec_at : nth group r.spec ≡ some spec
  pub positive : is_negative spec.mode ≡ false
  pub name : Text
  pub name_in : In name names
  pub made : make spec name ≡ some (row_ends r)
  pub item-fits : r.item < suc (length names)
  pub spec-fits : r.spec < length group
  pub is_name : r.kind ≡ 0

-- the rows of a spec that is not negative
pub positive-in : (b : Bool) (l : List Row) {r : Row} → In r (cond b [] l) → (b ≡ false) × In r l
positive-in true l m = elim m [ ]
positive-in false l m = (refl, m)

-- one row: its ends were made, its numbers are the item's and the spec's
one-row : (i j : ℕ) (e : Option Ends) {r : Row} → In r (name_row i j e) → (e ≡ some (row_ends r)) × (r.item ≡ suc j) × (r.spec ≡ i) × (r.kind ≡ 0)
one-row i j none h = elim h [ ]
one-row i j (some e) here = (refl, refl, refl, refl)
one-row i j (some e) (there h) = elim h [ ]

-- every row of a group comes from a spec and an item
pub from-group : (make : Spec → Text → Option Ends) (group : List Spec) (names : List Text) (r : Row) → In r (group_rows make group names) → FromGroup make group names r
unfolding name_rows
from-group make group names r h =
    let x = each_in (name_rows make names) (numbered group) h in
    let f : ℕ × Text → List Row = λ m. name_row x.0.0 m.0 (make x.0.1 m.1) in
    let u = positive-in (is_negative x.0.1.mode) (each (numbered names) f) x.2 in
    let y = each_in f (numbered names) u.1 in
    let k = one-row x.0.0 y.0.0 (make x.0.1 y.0.1) y.2 in
    let a = numbered-in 0 group x.1 in
    let b = numbered-in 0 names y.1 in
    record {
      spec = x.0.1;
      spec-in = a.1;
      spec_at = ap (nth group) k.2 ∙ numbered-place group x.1;
      positive = u.0;
      name = y.0.1;
      name_in = b.1;
      made = k.0;
      item-fits = omega (arith, k.1, b.0);
      spec-fits = omega (arith, k.2, a.0);
      is_name = k.3;
    }

-- ends that a spec makes of an item's name stand in a row
pub to-group : (make : Spec → Text → Option Ends) (group : List Spec) (names : List Text) (s : Spec) (n : Text) (e : Ends) → In s group → is_negative s.mode ≡ false → In n names → make s n ≡ some e → (r : Row) × In r (group_rows make group names) × (r.kind ≡ 0) × (row_ends r ≡ e)
unfolding name_rows
to-group make group names s n e h neg k p =
    let i = in-numbered 0 h in
    let j = in-numbered 0 k in
    let f : ℕ × Text → List Row = λ m. name_row i.0 m.0 (make s m.1) in
    let r : Row = record { item = suc j.0; spec = i.0; kind = 0; source = e.source; destination = e.destination } in
    let m : In r (f (j.0, n)) = rw p here in
    (r, in-each (name_rows make names) i.1 (rw neg (in-each f j.1 m)), refl, refl)

-- forward, the ends are a name and what it is mapped to
pub forward-made : (s : Spec) (name : Text) (e : Ends) → forward_ends s name ≡ some e → (name ≡ e.source) × (forward s name ≡ mapped e.destination)
unfolding forward_ends
forward-made s name e p = go (forward s name) p
  where
    go : (m : Mapped) → ends_of name m ≡ some e → (name ≡ e.source) × (m ≡ mapped e.destination)
    go unmapped q = absurd (let z : ◌≡◌ {A = ℕ} 0 1 = cc in omega arith)
    go (mapped dst) q = let u : record { source = name; destination = dst } ≡ e = cc in (ap (λ (x : Ends). x.source) u, ap (λ (x : Ends). mapped x.destination) u)

-- in reverse, they are what a name comes from, and the name
pub reverse-made : (s : Spec) (name : Text) (e : Ends) → reverse_ends s name ≡ some e → (reverse s name ≡ some e.source) × (e.destination ≡ some name)
unfolding reverse_ends
reverse-made s name e p = go (reverse s name) p
  where
    go : (o : Option Text) → map (λ src. record { source = src; destination = some name }) o ≡ some e → (o ≡ some e.source) × (e.destination ≡ some name)
    go none q = absurd (let z : ◌≡◌ {A = ℕ} 0 1 = cc in omega arith)
    go (some src) q = let u : record { source = src; destination = some name } ≡ e = cc in (ap (λ (x : Ends). some x.source) u, sym (ap (λ (x : Ends). x.destination) u))

-- no negative of the group matches a name
abbrev pub Free : List Spec → Text → Type 0
Free group name = any (excludes name) group ≡ false

-- a row of kind 0 that is not excluded has a free source
pub excluded-free : (group : List Spec) (r : Row) → r.kind ≡ 0 → not_excluded group r ≡ true → Free group r.source
unfolding not_excluded
excluded-free group r k e = not-true _ (rw k at e)

-- and the other way
pub free_stays : (group : List Spec) (r : Row) → r.kind ≡ 0 → Free group r.source → not_excluded group r ≡ true
unfolding not_excluded
free_stays group r k e = rw (k, e)

-- object sources

-- a row of an object: the match as a whole was mapped to its destination, it is of kind 1, and its number is the spec's
pub object-row : (i : ℕ) (o : Option Text) (m : Mapped) {r : Row} → In r (object_row i o m) → (id : Text) × (o ≡ some id) × (m ≡ mapped r.destination) × (r.kind ≡ 1) × (r.spec ≡ i)
object-row i none m h = elim h [ ]
object-row i (some t) unmapped h = elim h [ ]
object-row i (some t) (mapped dst) here = (t, refl, refl, refl, refl)
object-row i (some t) (mapped dst) (there h) = elim h [ ]

-- an object source is the source itself, and an object id
object-in : (negative : Bool) (src t : Text) → object_in (needle_of negative src) ≡ some t → (src ≡ t) × (object_id t ≡ true)
unfolding needle_of plain_needle
object-in negative src t e = go (starred src) refl
  where
    plain : (b c : Bool) → object_id src ≡ c → object_in (cond b (full src) (cond c (object src) (partial src))) ≡ some t → (src ≡ t) × (object_id t ≡ true)
    plain true c q p = absurd (let z : ◌≡◌ {A = ℕ} 0 1 = cc in omega arith)
    plain false true q p = let u : src ≡ t = cc in (u, rw u at q)
    plain false false q p = absurd (let z : ◌≡◌ {A = ℕ} 0 1 = cc in omega arith)

    go : (b : Bool) → starred src ≡ b → (src ≡ t) × (object_id t ≡ true)
    go true s = absurd (let p : object_in (form_needle negative (form_of src)) ≡ some t = e in let q = rw (form-starred src s) at p in let z : ◌≡◌ {A = ℕ} 0 1 = cc in omega arith)
    go false s = let p : object_in (form_needle negative (form_of src)) ≡ some t = e in plain (negative or begins (bytes "refs/") src) (object_id src) refl (rw (form-plain src s) at p)

-- the object source of a spec is its source, and an object id
pub object-source : (s : Spec) (t : Text) → object_source s ≡ some t → (s.source ≡ some t) × (object_id t ≡ true)
unfolding object_source
object-source s t e = go s.source e
  where
    go : (o : Option Text) → object_by (is_negative s.mode) o ≡ some t → (o ≡ some t) × (object_id t ≡ true)
    go none p = absurd (let z : ◌≡◌ {A = ℕ} 0 1 = cc in omega arith)
    go (some src) p = let q = object-in (is_negative s.mode) src t p in (ap {B = Option Text} some q.0, q.1)

-- a source with a star, or one that begins `refs/`, is no object id
pub no-object : (negative : Bool) (src : Text) → (starred src or begins (bytes "refs/") src) ≡ true → object_in (needle_of negative src) ≡ none
unfolding needle_of plain_needle
no-object negative src e = go (starred src) refl e
  where
    or_yes : (b : Bool) → (b or true) ≡ true
    or_yes true = refl
    or_yes false = refl

    go : (b : Bool) → starred src ≡ b → (b or begins (bytes "refs/") src) ≡ true → object_in (form_needle negative (form_of src)) ≡ none
    go true s p = rw (form-starred src s)
    go false s p = rw (form-plain src s, p, or_yes negative)
