-- The numbers of every row fit, and the listing entries answer the rows' bytes. Assumes nothing.
use mathlib.Core.Path.{◌≡◌, refl, ap, ◌∙◌, subst}
use mathlib.Core.Logic.{◌⊎◌, inl, inr}
use mathlib.Core.Bool.{Bool, true, false, cond}
use mathlib.Core.List.{List, [], ◌∷◌, ◌++◌}
use mathlib.Core.Option.{Option, none, some, map}
use Prim.Native.Nat.{ℕ, suc, ◌+◌, ◌≤◌, ◌<◌}
use native.Mathlib.Omega.{arith}
use lib.Dec.{eqb, lit≤}
use lib.ListN.{length, length-append, length-drop}
use Rattle.meaning.specs.Bytes.{Text, bytes, star, ◌or◌, any, same, begins, each, numbered, lower, object_id, given, In, here, there}
use Rattle.meaning.specs.Limits.{spec_bytes, name_bytes, mapped_bytes, spec_count}
use Rattle.meaning.specs.Spec.{accepted, Mode, Spec, is_negative, mode_of, unsigned, sides_of, left, right, source_of, spec_from, spec_of, starred, read_spec}
use Rattle.meaning.specs.Prefix.{before_star, candidates}
use Rattle.meaning.specs.Lists.{read_specs, read_items}
use Rattle.meaning.specs.Rows.{Row}
use Rattle.meaning.specs.Match.{after_star, Form, literal, pattern, form_of, capture, Needle, star_needle, full, object, partial, needle_of, object_source, Hit, miss, whole, caught, whole_if, caught_by, hit, completed, Mapped, unmapped, mapped, maps_to, forward_by, forward, reverse_by, reverse_sides, reverse}
use Rattle.meaning.specs.Listing.{forward_ends, reverse_ends, group_rows, object_row, object_rows, not_excluded, forward_rows, reverse_rows}
use Rattle.meaning.specs.Entries.{match_lhs, match_rhs}
use Rattle.promises.specs.Facts.{RowFits, RowNumbersFit, RowsAnswered}
use Rattle.promises.proofs.Laws.{in-append, keep-in, each_in, numbered-in}
use Rattle.promises.proofs.Captures.{capture-is}
use Rattle.promises.proofs.Splitting.{sides-length, unsigned-length}
use Rattle.promises.proofs.Members.{group-count, group-texts, names-count, names-short}
use Rattle.promises.proofs.ReadSources.{Source, source_is}
use Rattle.promises.proofs.Accepted.{read-passed}
use Rattle.promises.proofs.Listings.{row_ends, from-group, forward-made, reverse-made, object-source}

-- the sides of an accepted spec are short

-- a text that may be absent is as short as a spec
abbrev pub Short : Option Text → Type 0
Short o = (t : Text) → o ≡ some t → length t ≤ spec_bytes

-- a source, of a side that is short
source-short : (op : ℕ) (m : Mode) (l : Text) → length l ≤ spec_bytes → Short (source_of op m l)
source-short op m l h t e = go (source_is op m l t e)
  where
    go : (t ≡ bytes "HEAD") ⊎ ((t ≡ l) × Source l) → length t ≤ spec_bytes
    go (inl q) = rw q (lit≤ tt)
    go (inr q) = rw q.0 h

-- a destination
given-short : (r : Text) → length r ≤ spec_bytes → Short (given r)
given-short [] h t e = absurd (let z : ◌≡◌ {A = ℕ} 0 1 = cc in omega arith)
given-short (x ∷ r) h t e = let q : x ∷ r ≡ t = cc in rw (← q) h

-- both sides of what a short text means
text-short : (op : ℕ) (t : Text) → length t ≤ spec_bytes → Short (spec_of op t).source × Short (spec_of op t).destination
unfolding spec_of spec_from
text-short op t h =
    let a = sides-length (unsigned t) in
    let b = unsigned-length t in
    (source-short op (mode_of t) (left (sides_of (unsigned t))) (omega arith), given-short (right (sides_of (unsigned t))) (omega arith))

-- both sides of a spec that is read
pub spec-short : (op : ℕ) (t : Text) (s : Spec) → read_spec op t ≡ accepted s → Short s.source × Short s.destination
spec-short op t s e = let r = read-passed op t s e in subst (λ (x : Spec). Short x.source × Short x.destination) r.spec_is_lem (text-short op t r.size)

-- what a match makes of them is not long

-- what stands before a star
before-length : (t : Text) → length (before_star t) ≤ length t
before-length [] = omega arith
before-length (x ∷ t) = go (before-length t) (eqb star x)
  where
    go : length (before_star t) ≤ length t → (b : Bool) → length (cond {A = Text} b [] (x ∷ before_star t)) ≤ suc (length t)
    go h true = omega arith
    go h false = omega arith

-- the bytes that a form keeps
form_length : Form → ℕ
form_length (literal t) = length t
form_length (pattern a b) = length a + length b

-- no more than the text has
form-length : (t : Text) → form_length (form_of t) ≤ length t
unfolding form_of form_length
form-length t = go (starred t)
  where
    go : (b : Bool) → form_length (cond b (pattern (before_star t) (after_star t)) (literal t)) ≤ length t
    go true = omega (arith, before-length t, length-drop (suc (length (before_star t))) t)
    go false = omega arith

-- a text in lower case is as long
lower-length : (t : Text) → length (lower t) ≡ length t
lower-length [] = refl
lower-length (x ∷ t) = ap suc (lower-length t)

-- a completed name is at most eleven bytes longer
completed-length : (t : Text) → length (completed t) ≤ 11 + length t
unfolding completed
completed-length t = go (begins (bytes "refs/") t) (object_id t) (begins (bytes "tags/") t or begins (bytes "remotes/") t)
  where
    go : (a b c : Bool) → length (cond a t (cond b (bytes "refs/heads/" ++ lower t) (cond c (bytes "refs/" ++ t) (bytes "refs/heads/" ++ t)))) ≤ 11 + length t
    go true b c = omega arith
    go false true c = omega (arith, lower-length t)
    go false false true = omega arith
    go false false false = omega arith

-- what was caught is no longer than the name
abbrev HitLength : Text → Hit → Type 0
HitLength name miss = Unit {0}
HitLength name whole = Unit {0}
HitLength name (caught c) = length c ≤ length name

hit-length : (n : Needle) (name : Text) → HitLength name (hit n name)
hit-length (full t) name = go (same t name)
  where
    go : (b : Bool) → HitLength name (whole_if b)
    go true = tt
    go false = tt
hit-length (object t) name = tt
hit-length (partial t) name = go (any (same name) (candidates t))
  where
    go : (b : Bool) → HitLength name (whole_if b)
    go true = tt
    go false = tt
hit-length (star_needle a b) name = go (capture a b name) refl
  where
    go : (o : Option Text) → capture a b name ≡ o → HitLength name (caught_by o)
    go none e = tt
    go (some c) e = let q = capture-is a b name c e in omega (arith, ap length q, length-append a (c ++ b), length-append c b)

-- a destination that a match is mapped to
maps-length : (name : Text) (h : Hit) → HitLength name h → (f : Option Form) → ((g : Form) → f ≡ some g → form_length g ≤ spec_bytes) → (d : Text) → maps_to h f ≡ mapped (some d) → length name ≤ name_bytes → length d ≤ mapped_bytes
unfolding form_length
maps-length name miss l f s d e k = absurd (let z : ◌≡◌ {A = ℕ} 0 1 = cc in omega arith)
maps-length name whole l none s d e k = absurd (let z : ◌≡◌ {A = ℕ} 0 1 = cc in omega arith)
maps-length name whole l (some (literal t)) s d e k = let q : completed t ≡ d = cc in rw (← q) (omega (arith, completed-length t, s (literal t) refl))
maps-length name whole l (some (pattern a b)) s d e k = absurd (let z : ◌≡◌ {A = ℕ} 0 1 = cc in omega arith)
maps-length name (caught c) l none s d e k = absurd (let z : ◌≡◌ {A = ℕ} 0 1 = cc in omega arith)
maps-length name (caught c) l (some (literal t)) s d e k = absurd (let z : ◌≡◌ {A = ℕ} 0 1 = cc in omega arith)
maps-length name (caught c) l (some (pattern a b)) s d e k = let q : a ++ (c ++ b) ≡ d = cc in rw (← q) (omega (arith, s (pattern a b) refl, length-append a (c ++ b), length-append c b))

-- the form of a destination that is short
forms-short : (dst : Option Text) → Short dst → (g : Form) → map form_of dst ≡ some g → form_length g ≤ spec_bytes
forms-short none h g e = absurd (let z : ◌≡◌ {A = ℕ} 0 1 = cc in omega arith)
forms-short (some t) h g e = let q : form_of t ≡ g = cc in rw (← q) (omega (arith, form-length t, h t refl))

-- a name mapped forward
forward-length : (s : Spec) (name d : Text) → Short s.destination → forward s name ≡ mapped (some d) → length name ≤ name_bytes → length d ≤ mapped_bytes
unfolding forward
forward-length s name d h e k = go s.source e
  where
    go : (o : Option Text) → forward_by (is_negative s.mode) o s.destination name ≡ mapped (some d) → length d ≤ mapped_bytes
    go none p = absurd (let z : ◌≡◌ {A = ℕ} 0 1 = cc in omega arith)
    go (some src) p = maps-length name (hit (needle_of (is_negative s.mode) src) name) (hit-length (needle_of (is_negative s.mode) src) name) (map form_of s.destination) (forms-short s.destination h) d p k

-- a name mapped back, by forms
back-length : (f g : Form) (name n : Text) → form_length f ≤ spec_bytes → reverse_by f g name ≡ some n → length name ≤ name_bytes → length n ≤ mapped_bytes
unfolding form_length
back-length (literal s) (literal t) name n h e k = go (same t name) e
  where
    go : (b : Bool) → cond b (some s) none ≡ some n → length n ≤ mapped_bytes
    go true p = let q : s ≡ n = cc in rw (← q) (omega arith)
    go false p = absurd (let z : ◌≡◌ {A = ℕ} 0 1 = cc in omega arith)
back-length (pattern a b) (pattern a' b') name n h e k = go (capture a' b' name) refl e
  where
    go : (o : Option Text) → capture a' b' name ≡ o → map (λ c. a ++ (c ++ b)) o ≡ some n → length n ≤ mapped_bytes
    go none c p = absurd (let z : ◌≡◌ {A = ℕ} 0 1 = cc in omega arith)
    go (some c) i p =
        let q : a ++ (c ++ b) ≡ n = cc in
        let r = capture-is a' b' name c i in
        rw (← q) (omega (arith, ap length r, length-append a' (c ++ b'), length-append c b', length-append a (c ++ b), length-append c b))
back-length (literal s) (pattern a b) name n h e k = absurd (let z : ◌≡◌ {A = ℕ} 0 1 = cc in omega arith)
back-length (pattern a b) (literal t) name n h e k = absurd (let z : ◌≡◌ {A = ℕ} 0 1 = cc in omega arith)

-- a name mapped back
pub reverse-length : (s : Spec) (name n : Text) → Short s.source → reverse s name ≡ some n → length name ≤ name_bytes → length n ≤ mapped_bytes
unfolding reverse
reverse-length s name n h e k = go s.source s.destination h e
  where
    go : (src dst : Option Text) → Short src → reverse_sides src dst name ≡ some n → length n ≤ mapped_bytes
    go none dst i p = absurd (let z : ◌≡◌ {A = ℕ} 0 1 = cc in omega arith)
    go (some src) none i p = absurd (let z : ◌≡◌ {A = ℕ} 0 1 = cc in omega arith)
    go (some src) (some dst) i p = back-length (form_of src) (form_of dst) name n (omega (arith, form-length src, i src refl)) p k

-- every row fits

module _ (op : ℕ) (specs items : Text) (group : List Spec) (names : List Text) (e : read_specs op specs ≡ accepted group) (f : read_items items ≡ accepted names) where
  pub sides-short : (s : Spec) → In s group → Short s.source × Short s.destination
  sides-short s m = let t = group-texts op specs group e s m in spec-short op t.0 s t.1

  -- a row of a name, forward
  forward-fits : (r : Row) → In r (group_rows forward_ends group names) → RowFits r
  forward-fits r m =
      let x = from-group forward_ends group names r m in
      let w = forward-made x.spec x.name (row_ends r) x.made in
      let a = group-count op specs group e in
      let b = names-count items names f in
      let c = names-short items names f x.name x.name_in in
      record {
        item-fits = omega (arith, x.item-fits);
        spec-fits = omega (arith, x.spec-fits);
        kind_fits = omega (arith, x.is_name);
        source_fits = omega (arith, ap length w.0);
        destination-fits = λ d q. forward-length x.spec x.name d (sides-short x.spec x.spec-in).1 (w.1 ∙ ap {B = Mapped} mapped q) c;
      }

  -- a row of a name, in reverse
  reverse-fits : (r : Row) → In r (group_rows reverse_ends group names) → RowFits r
  reverse-fits r m =
      let x = from-group reverse_ends group names r m in
      let w = reverse-made x.spec x.name (row_ends r) x.made in
      let a = group-count op specs group e in
      let b = names-count items names f in
      let c = names-short items names f x.name x.name_in in
      record {
        item-fits = omega (arith, x.item-fits);
        spec-fits = omega (arith, x.spec-fits);
        kind_fits = omega (arith, x.is_name);
        source_fits = reverse-length x.spec x.name r.source (sides-short x.spec x.spec-in).0 w.0 c;
        destination-fits = λ d q. let n : x.name ≡ d = cc (w.1, q) in omega (arith, ap length n);
      }

  -- the row of an object source
  object-fits : (i : ℕ) → i < spec_count → (o : Option Text) → Short o → (dst : Option Text) → Short dst → {r : Row} → In r (object_row i o (maps_to whole (map form_of dst))) → RowFits r
  object-fits i h o k dst l {r} m = go o k (maps_to whole (map form_of dst)) refl m
    where
      go : (o : Option Text) → Short o → (m : Mapped) → maps_to whole (map form_of dst) ≡ m → {r : Row} → In r (object_row i o m) → RowFits r
      go none k m q n = elim n [ ]
      go (some t) k unmapped q n = elim n [ ]
      go (some t) k (mapped d) q here =
          record {
            item-fits = omega arith;
            spec-fits = h;
            kind_fits = omega arith;
            source_fits = omega (arith, lower-length t, k t refl);
            destination-fits = λ u p. maps-length [] whole tt (map form_of dst) (forms-short dst l) u (q ∙ ap {B = Mapped} mapped p) (omega arith);
          }
      go (some t) k (mapped d) q (there n) = elim n [ ]

  -- an object source is the spec's source
  object-short : (s : Spec) → Short s.source → Short (object_source s)
  object-short s h t q = h t (object-source s t q).0

  all-forward-fit : (r : Row) → In r (forward_rows group names) → RowFits r
  unfolding forward_rows object_rows
  all-forward-fit r m = go (in-append (each (numbered group) object_rows) (keep-in (not_excluded group) _ m).0)
    where
      go : In r (each (numbered group) object_rows) ⊎ In r (group_rows forward_ends group names) → RowFits r
      go (inr h) = forward-fits r h
      go (inl h) =
          let x = each_in object_rows (numbered group) h in
          let n = numbered-in 0 group x.1 in
          let a = group-count op specs group e in
          let s = sides-short x.0.1 n.1 in
          object-fits x.0.0 (omega (arith, n.0)) (object_source x.0.1) (object-short x.0.1 s.0) x.0.1.destination s.1 x.2

  all-reverse-fit : (r : Row) → In r (reverse_rows group names) → RowFits r
  unfolding reverse_rows
  all-reverse-fit r m = reverse-fits r (keep-in (not_excluded group) (group_rows reverse_ends group names) m).0

-- the numbers of every row fit
pub row-numbers-fit : RowNumbersFit
row-numbers-fit op specs items group names e f = (all-forward-fit op specs items group names e f, all-reverse-fit op specs items group names e f)

-- the listing entries answer the bytes of the rows
pub rows-answered : RowsAnswered
unfolding match_lhs match_rhs
rows-answered op specs items group names e f = (rw (e, f), rw (e, f))
