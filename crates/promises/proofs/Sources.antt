-- A conflict lists exactly the sources of the rows with its destination, each once, and two at least. Assumes nothing.
use mathlib.Core.Path.{◌≡◌, refl, sym, ap, ◌∙◌}
use mathlib.Core.Logic.{◌⊎◌, inl, inr}
use mathlib.Core.Bool.{Bool, true, false, cond}
use mathlib.Core.List.{List, [], ◌∷◌, map}
use mathlib.Core.Option.{some}
use Prim.Native.Nat.{◌≤◌}
use native.Mathlib.Omega.{arith}
use borrow.Author.Tests.{not-false, eqb-true}
use lib.Dec.{eqb}
use lib.ListN.{length}
use Rattle.meaning.specs.Bytes.{Text, ◌and◌, same, keep, each, in_order, In, here, there}
use Rattle.meaning.specs.Rows.{Row}
use Rattle.meaning.specs.Validation.{differ, destination_of, onto, rows_onto, in_conflict, first_seen, ConflictSource, row_source, conflict_on, conflicts}
use Rattle.promises.specs.Terms.{SameSource, TwoSources}
use Rattle.promises.specs.Facts.{Distinct, SourcesExactly, ConflictSources}
use Rattle.promises.proofs.Laws.{and_left, and_right, in-keep, keep-in, in_map, map-in, in-cast, in-cons, same-is}
use Rattle.promises.proofs.Conflicts.{differ-is, onto-is, is-onto, found-two}

-- rows that do not differ have one source
no-differ : (r q : Row) → differ r q ≡ false → SameSource r q
unfolding differ
no-differ r q e =
    let p : (eqb r.kind q.kind and same r.source q.source) ≡ true = not-false _ e in
    (eqb-true _ _ (and_left (eqb r.kind q.kind) _ p), same-is _ _ (and_right (eqb r.kind q.kind) _ p))

-- what is first seen is there
pub seen-in : (l : List Row) {r : Row} → In r (first_seen l) → In r l
seen-in [] m = m
seen-in (q ∷ l) {r} m = go (seen-in l) (in-cons m)
  where
    go : (In r (first_seen l) → In r l) → (r ≡ q) ⊎ In r (keep (differ q) (first_seen l)) → In r (q ∷ l)
    go f (inl e) = in-cast e here
    go f (inr n) = there (f (keep-in (differ q) (first_seen l) n).0)

-- a source that is there is seen
in-seen : (l : List Row) (r : Row) → In r l → (q : Row) × In q (first_seen l) × SameSource q r
in-seen [] r m = elim m [ ]
in-seen (x ∷ l) r m = go (in-seen l r) (in-cons m)
  where
    kept : (q : Row) → In q (first_seen l) → SameSource q r → (b : Bool) → differ x q ≡ b → (p : Row) × In p (x ∷ keep (differ x) (first_seen l)) × SameSource p r
    kept q n s true e = (q, there (in-keep (differ x) n e), s)
    kept q n s false e = let t = no-differ x q e in (x, here, (t.0 ∙ s.0, t.1 ∙ s.1))

    go : (In r l → (q : Row) × In q (first_seen l) × SameSource q r) → (r ≡ x) ⊎ In r l → (p : Row) × In p (x ∷ keep (differ x) (first_seen l)) × SameSource p r
    go f (inl e) = (x, here, (ap (λ (y : Row). y.kind) (sym e), ap (λ (y : Row). y.source) (sym e)))
    go f (inr n) = let q = f n in kept q.0 q.1 q.2 (differ x q.0) refl

-- no two that are first seen are one
abbrev Apart : List Row → Type 0
Apart [] = Unit {0}
Apart (r ∷ l) = ((q : Row) → In q l → SameSource r q → ⊥) × Apart l

-- what is kept of them is apart too
apart-keep : (test : Row → Bool) (l : List Row) → Apart l → Apart (keep test l)
apart-keep test [] a = tt
apart-keep test (r ∷ l) a = go (apart-keep test l a.1) (test r)
  where
    go : Apart (keep test l) → (b : Bool) → Apart (cond b (r ∷ keep test l) (keep test l))
    go k true = ((λ q m. a.0 q (keep-in test l m).0), k)
    go k false = k

seen_apart : (l : List Row) → Apart (first_seen l)
seen_apart [] = tt
seen_apart (r ∷ l) = ((λ q m. differ-is r q (keep-in (differ r) (first_seen l) m).1), apart-keep (differ r) (first_seen l) (seen_apart l))

-- rows that are apart have distinct sources
apart_distinct : (l : List Row) → Apart l → Distinct (map row_source l)
apart_distinct [] a = tt
apart_distinct (r ∷ l) a = (other, apart_distinct l a.1)
  where
    other : (t : ConflictSource) → In t (map row_source l) → (r.kind ≡ t.kind) × (r.source ≡ t.name) → ⊥
    other t m e = let q = map-in row_source l m in a.0 q.0 q.1 (e.0 ∙ ap (λ (x : ConflictSource). x.kind) q.2, e.1 ∙ ap (λ (x : ConflictSource). x.name) q.2)

-- two members that differ: two at least
two-members : (l : List ConflictSource) (s t : ConflictSource) → In s l → In t l → ((s.kind ≡ t.kind) × (s.name ≡ t.name) → ⊥) → 2 ≤ length l
two-members [] s t m n d = elim m [ ]
two-members (x ∷ []) s t m n d = absurd (go (in-cons m) (in-cons n))
  where
    go : (s ≡ x) ⊎ In s [] → (t ≡ x) ⊎ In t [] → ⊥
    go (inl e) (inl f) = let g : s ≡ t = e ∙ sym f in d (ap (λ (y : ConflictSource). y.kind) g, ap (λ (y : ConflictSource). y.name) g)
    go (inl e) (inr k) = elim k [ ]
    go (inr k) f = elim k [ ]
two-members (x ∷ y ∷ l) s t m n d = omega arith

-- the sources of the conflict on d
module _ (rows : List Row) (d : Text) where
  listed-source : (r : Row) → In r rows → r.destination ≡ some d → (s : ConflictSource) × In s (map row_source (first_seen (rows_onto rows d))) × (s.kind ≡ r.kind) × (s.name ≡ r.source)
  listed-source r m e =
      let q = in-seen (rows_onto rows d) r (in-keep (onto d) m (is-onto d r e)) in
      (row_source q.0, in_map row_source q.1, q.2.0, q.2.1)

  from_row : (s : ConflictSource) → In s (map row_source (first_seen (rows_onto rows d))) → (r : Row) × In r rows × (r.destination ≡ some d) × (row_source r ≡ s)
  from_row s m =
      let q = map-in row_source (first_seen (rows_onto rows d)) m in
      let k = keep-in (onto d) rows (seen-in (rows_onto rows d) q.1) in
      (q.0, k.0, onto-is d q.0 k.1, sym q.2)

  -- a conflict lists two sources at least
  pub two-listed : TwoSources rows d → 2 ≤ length (map row_source (first_seen (rows_onto rows d)))
  two-listed t =
      let a = listed-source t.first t.first-in t.first-onto in
      let b = listed-source t.second t.second-in t.second-onto in
      two-members (map row_source (first_seen (rows_onto rows d))) a.0 b.0 a.1 b.1 (λ e. t.different (sym a.2 ∙ e.0 ∙ b.2, sym a.3 ∙ e.1 ∙ b.3))

  sources-of : TwoSources rows d → SourcesExactly rows (conflict_on rows d)
  unfolding conflict_on
  sources-of t = record { all = listed-source; only = from_row; once = apart_distinct (first_seen (rows_onto rows d)) (seen_apart (rows_onto rows d)); two = two-listed t }

-- every conflict lists its sources exactly
pub conflict-sources : ConflictSources
unfolding conflicts
conflict-sources rows c h =
    let m = map-in (conflict_on rows) (keep (in_conflict rows) (in_order (each rows destination_of))) h in
    let k = keep-in (in_conflict rows) (in_order (each rows destination_of)) m.1 in
    rw m.2 (sources-of rows m.0 (found-two rows m.0 k.1))
