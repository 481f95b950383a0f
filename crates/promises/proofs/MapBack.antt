-- Demand 3, third: kept destinations map back. Assumes nothing.
use mathlib.Core.Path.{◌≡◌, refl, sym, ap, ◌∙◌}
use mathlib.Core.Logic.{◌⊎◌, inl, inr}
use mathlib.Core.Bool.{Bool, true, false, cond, true≢false, false≢true}
use mathlib.Core.List.{List, [], ◌∷◌, ◌++◌}
use mathlib.Core.Option.{Option, none, some, map}
use Prim.Native.Nat.{ℕ}
use native.Mathlib.Omega.{arith}
use Rattle.meaning.specs.Bytes.{Text, bytes, ◌and◌, ◌or◌, any, every, same, begins, keep, each, numbered, object_id, In, here, there}
use Rattle.meaning.specs.Spec.{Spec, is_negative, starred}
use Rattle.meaning.specs.Prefix.{before_star, candidates}
use Rattle.meaning.specs.Rows.{Row}
use Rattle.meaning.specs.Match.{after_star, literal, pattern, form_of, capture, full, object, partial, plain_needle, needle_of, object_in, object_by, object_source, Hit, miss, whole, caught, whole_if, caught_by, hit, completed, Mapped, mapped, maps_to, forward_by, forward, reverse_sides, reverse}
use Rattle.meaning.specs.Listing.{Ends, forward_ends, reverse_ends, group_rows, object_row, object_rows, not_excluded, forward_rows, reverse_rows}
use Rattle.meaning.specs.Validation.{Conflict, conflicts, is_kept, Fix, passing, pass_unless, verdict}
use Rattle.promises.specs.Terms.{TwoSources, both_ways, reversible, StandsAsSource}
use Rattle.promises.specs.Demands.{KeptMapBack}
use Rattle.promises.proofs.Laws.{and_left, and_right, or_cases, chosen, in_right, in-append, in-keep, keep-in, every_in, each_in, numbered-in, same-is, same-eq}
use Rattle.promises.proofs.Captures.{capture-is, capture-fill, form-plain, form-starred}
use Rattle.promises.proofs.Listings.{row_ends, FromGroup, from-group, to-group, forward-made, reverse-made, Free, excluded-free, free_stays, no-object}
use Rattle.promises.proofs.Conflicts.{passes-exactly}

-- one spec, there and back

-- a capture that was mapped to d
pub caught-there : (o : Option Text) (d a b : Text) → maps_to (caught_by o) (some (pattern a b)) ≡ mapped (some d) → (k : Text) × (o ≡ some k) × (a ++ (k ++ b) ≡ d)
caught-there none d a b p = absurd (let z : ◌≡◌ {A = ℕ} 0 1 = cc in omega arith)
caught-there (some k) d a b p = (k, refl, cc)

-- a capture that was put between a and b
filled-from : (a b : Text) (o : Option Text) (n : Text) → map (λ c. a ++ (c ++ b)) o ≡ some n → (k : Text) × (o ≡ some k) × (a ++ (k ++ b) ≡ n)
filled-from a b none n p = absurd (let z : ◌≡◌ {A = ℕ} 0 1 = cc in omega arith)
filled-from a b (some k) n p = (k, refl, cc)

-- two patterns: what maps n to d maps d back to n
module _ (src dst a b a' b' : Text) (f : form_of src ≡ pattern a b) (g : form_of dst ≡ pattern a' b') (n d : Text) where
  pub pattern-forward : forward_by false (some src) (some dst) n ≡ maps_to (caught_by (capture a b n)) (some (pattern a' b'))
  unfolding needle_of
  pattern-forward = rw (f, g)

  there-at : (k : Text) → capture a b n ≡ some k → a' ++ (k ++ b') ≡ d → reverse_sides (some src) (some dst) d ≡ some n
  there-at k e v = let u : n ≡ a ++ (k ++ b) = capture-is a b n k e in rw (f, g, ← v, capture-fill a' b' k, u)

  back_at : (k : Text) → capture a' b' d ≡ some k → a ++ (k ++ b) ≡ n → maps_to (caught_by (capture a b n)) (some (pattern a' b')) ≡ mapped (some d)
  back_at k e v = let u : d ≡ a' ++ (k ++ b') = capture-is a' b' d k e in rw (← v, capture-fill a b k, u)

  pattern-there : forward_by false (some src) (some dst) n ≡ mapped (some d) → reverse_sides (some src) (some dst) d ≡ some n
  pattern-there e = let k = caught-there (capture a b n) d a' b' (sym pattern-forward ∙ e) in there-at k.0 k.1 k.2

  pattern-back : reverse_sides (some src) (some dst) d ≡ some n → forward_by false (some src) (some dst) n ≡ mapped (some d)
  pattern-back e = let k = filled-from a b (capture a' b' d) n (rw (f, g) at e) in pattern-forward ∙ back_at k.0 k.1 k.2

-- a match as a whole that was mapped to d
whole-there : (c : Bool) (d e : Text) → maps_to (whole_if c) (some (literal e)) ≡ mapped (some d) → (c ≡ true) × (completed e ≡ d)
whole-there true d e p = (refl, cc)
whole-there false d e p = absurd (let z : ◌≡◌ {A = ℕ} 0 1 = cc in omega arith)

-- two literals that begin `refs/`: what maps n to d maps d back to n
module _ (src dst : Text) (f : form_of src ≡ literal src) (g : form_of dst ≡ literal dst) (r : begins (bytes "refs/") src ≡ true) (q : begins (bytes "refs/") dst ≡ true) (n d : Text) where
  full-forward : forward_by false (some src) (some dst) n ≡ maps_to (whole_if (same src n)) (some (literal dst))
  unfolding needle_of plain_needle
  full-forward = rw (f, g, r)

  full-completed : completed dst ≡ dst
  unfolding completed
  full-completed = rw q

  literal-there : forward_by false (some src) (some dst) n ≡ mapped (some d) → reverse_sides (some src) (some dst) d ≡ some n
  literal-there e =
      let k = whole-there (same src n) d dst (sym full-forward ∙ e) in
      let u : src ≡ n = same-is src n k.0 in
      let v : dst ≡ d = sym full-completed ∙ k.1 in
      rw (f, g, same-eq v, u)

  literal-back : reverse_sides (some src) (some dst) d ≡ some n → forward_by false (some src) (some dst) n ≡ mapped (some d)
  literal-back e =
      let h : cond (same dst d) (some src) none ≡ some n = rw (f, g) at e in
      let k = chosen (same dst d) src n h in
      let v : dst ≡ d = same-is dst d k.0 in
      full-forward ∙ rw (same-eq k.1, full-completed, v)

-- a pattern against a literal, either way: nothing is mapped

caught-literal : (o : Option Text) (t d : Text) → maps_to (caught_by o) (some (literal t)) ≡ mapped (some d) → ⊥
caught-literal none t d p = let z : ◌≡◌ {A = ℕ} 0 1 = cc in omega arith
caught-literal (some c) t d p = let z : ◌≡◌ {A = ℕ} 0 1 = cc in omega arith

whole-pattern : (c : Bool) (a b d : Text) → maps_to (whole_if c) (some (pattern a b)) ≡ mapped (some d) → ⊥
whole-pattern true a b d p = let z : ◌≡◌ {A = ℕ} 0 1 = cc in omega arith
whole-pattern false a b d p = let z : ◌≡◌ {A = ℕ} 0 1 = cc in omega arith

plain-pattern : (src n a b d : Text) → maps_to (hit (plain_needle false src) n) (some (pattern a b)) ≡ mapped (some d) → ⊥
unfolding plain_needle
plain-pattern src n a b d e = go (begins (bytes "refs/") src) (object_id src) e
  where
    go : (x y : Bool) → maps_to (hit (cond x (full src) (cond y (object src) (partial src))) n) (some (pattern a b)) ≡ mapped (some d) → ⊥
    go true y p = whole-pattern (same src n) a b d p
    go false true p = whole-pattern false a b d p
    go false false p = whole-pattern (any (same n) (candidates src)) a b d p

-- a spec maps n to d exactly when it maps d back to n
abbrev ThereAndBack : Option Text → Option Text → Text → Text → Type 0
ThereAndBack src dst n d = (forward_by false src dst n ≡ mapped (some d) → reverse_sides src dst d ≡ some n) × (reverse_sides src dst d ≡ some n → forward_by false src dst n ≡ mapped (some d))

both-sides : (src dst n d : Text) → both_ways (some src) (some dst) ≡ true → ThereAndBack (some src) (some dst) n d
unfolding needle_of
both-sides src dst n d h = go (starred src) (starred dst) refl refl h
  where
    go : (b c : Bool) → starred src ≡ b → starred dst ≡ c → ((b and c) or (begins (bytes "refs/") src and begins (bytes "refs/") dst)) ≡ true → ThereAndBack (some src) (some dst) n d
    go true true s t w =
        let x = form-starred src s in
        let y = form-starred dst t in
        (pattern-there src dst (before_star src) (after_star src) (before_star dst) (after_star dst) x y n d, pattern-back src dst (before_star src) (after_star src) (before_star dst) (after_star dst) x y n d)
    go false false s t w =
        let x = form-plain src s in
        let y = form-plain dst t in
        let p = and_left (begins (bytes "refs/") src) _ w in
        let q = and_right (begins (bytes "refs/") src) _ w in
        (literal-there src dst x y p q n d, literal-back src dst x y p q n d)
    go true false s t w =
        let x = form-starred src s in
        let y = form-plain dst t in
        ((λ e. absurd (caught-literal (capture (before_star src) (after_star src) n) dst d (rw (x, y) at e))), (λ e. absurd (nothing (rw (x, y) at e))))
      where
        nothing : none ≡ some n → ⊥
        nothing e = let z : ◌≡◌ {A = ℕ} 0 1 = cc in omega arith
    go false true s t w =
        let x = form-plain src s in
        let y = form-starred dst t in
        ((λ e. absurd (plain-pattern src n (before_star dst) (after_star dst) d (rw (x, y) at e))), (λ e. absurd (nothing (rw (x, y) at e))))
      where
        nothing : none ≡ some n → ⊥
        nothing e = let z : ◌≡◌ {A = ℕ} 0 1 = cc in omega arith

-- without a destination nothing is mapped to d
pub one-sided : (m : Hit) (d : Text) → maps_to m none ≡ mapped (some d) → ⊥
one-sided miss d e = let z : ◌≡◌ {A = ℕ} 0 1 = cc in omega arith
one-sided whole d e = let z : ◌≡◌ {A = ℕ} 0 1 = cc in omega arith
one-sided (caught c) d e = let z : ◌≡◌ {A = ℕ} 0 1 = cc in omega arith

-- by the sides of a spec
sides-back : (src dst : Option Text) (n d : Text) → both_ways src dst ≡ true → ThereAndBack src dst n d
sides-back none dst n d h = (λ p. absurd (let z : ◌≡◌ {A = ℕ} 0 1 = cc in omega arith), λ p. absurd (let z : ◌≡◌ {A = ℕ} 0 1 = cc in omega arith))
sides-back (some src) none n d h = (λ p. absurd (one-sided (hit (needle_of false src) n) d p), λ p. absurd (let z : ◌≡◌ {A = ℕ} 0 1 = cc in omega arith))
sides-back (some src) (some dst) n d h = both-sides src dst n d h

-- a reversible spec that is not negative maps n to d exactly when it maps d back to n
module _ (s : Spec) (neg : is_negative s.mode ≡ false) (back : reversible s ≡ true) (n d : Text) where
  spec-back : ThereAndBack s.source s.destination n d
  unfolding reversible
  spec-back = sides-back s.source s.destination n d back

  forth : forward s n ≡ mapped (some d) → reverse s d ≡ some n
  unfolding forward reverse
  forth e = spec-back.0 (rw neg at e)

  back-again : reverse s d ≡ some n → forward s n ≡ mapped (some d)
  unfolding forward reverse
  back-again e = rw neg (spec-back.1 e)

-- the row of an object source has no destination where the spec is reversible

ways-source : (src dst : Text) → both_ways (some src) (some dst) ≡ true → (starred src or begins (bytes "refs/") src) ≡ true
ways-source src dst e = go (starred src) (or_cases (starred src and starred dst) _ e)
  where
    go : (b : Bool) → ((b and starred dst) ≡ true) ⊎ ((begins (bytes "refs/") src and begins (bytes "refs/") dst) ≡ true) → (b or begins (bytes "refs/") src) ≡ true
    go true h = refl
    go false (inl p) = absurd (false≢true p)
    go false (inr p) = and_left _ _ p

-- an object row whose spec has no destination has none
object-alone : (i : ℕ) (o : Option Text) {r : Row} → In r (object_row i o (mapped none)) → r.destination ≡ none
object-alone i none m = elim m [ ]
object-alone i (some t) here = refl
object-alone i (some t) (there m) = elim m [ ]

object-none : (i : ℕ) (negative : Bool) (src dst : Option Text) {r : Row} → both_ways src dst ≡ true → In r (object_row i (object_by negative src) (maps_to whole (map form_of dst))) → r.destination ≡ none
object-none i negative none dst e m = elim m [ ]
object-none i negative (some src) none e m = object-alone i (object_in (needle_of negative src)) m
object-none i negative (some src) (some dst) {r} e m = let z : In r [] = rw (no-object negative src (ways-source src dst e)) at m in elim z [ ]

-- where a row comes from

-- a spec that maps a free name gives a row of the listing
pub to-forward : (group : List Spec) (names : List Text) (s : Spec) (n : Text) (dst : Option Text) → In s group → is_negative s.mode ≡ false → In n names → forward s n ≡ mapped dst → Free group n → (r : Row) × In r (forward_rows group names) × (r.source ≡ n) × (r.destination ≡ dst)
unfolding forward_rows forward_ends
to-forward group names s n dst h neg k e free =
    let t = to-group forward_ends group names s n (record { source = n; destination = dst }) h neg k (rw e) in
    let a : t.0.source ≡ n = ap (λ (x : Ends). x.source) t.3 in
    let b : t.0.destination ≡ dst = ap (λ (x : Ends). x.destination) t.3 in
    (t.0, in-keep (not_excluded group) (in_right (each (numbered group) object_rows) t.1) (free_stays group t.0 t.2 (rw a free)), a, b)

-- and so in reverse
to-reverse : (group : List Spec) (others : List Text) (s : Spec) (n d : Text) → In s group → is_negative s.mode ≡ false → In d others → reverse s d ≡ some n → Free group n → StandsAsSource (reverse_rows group others) d n
unfolding reverse_rows reverse_ends
to-reverse group others s n d h neg k e free =
    let t = to-group reverse_ends group others s d (record { source = n; destination = some d }) h neg k (rw e) in
    let a : t.0.source ≡ n = ap (λ (x : Ends). x.source) t.3 in
    let b : t.0.destination ≡ some d = ap (λ (x : Ends). x.destination) t.3 in
    record { row = t.0; row_in = in-keep (not_excluded group) t.1 (free_stays group t.0 t.2 (rw a free)); onto-d = b; from-n = a }

-- kept rows

kept-rows : (rows : List Row) (l : List Conflict) {kept : List Row} {fixes : List Fix} → pass_unless rows l ≡ passing kept fixes → keep is_kept rows ≡ kept
kept-rows rows [] e = cc
kept-rows rows (c ∷ l) e = absurd (let z : ◌≡◌ {A = ℕ} 0 1 = cc in omega arith)

kept_in : (rows kept : List Row) (fixes : List Fix) → verdict rows ≡ passing kept fixes → {r : Row} → In r kept → In r rows
unfolding verdict
kept_in rows kept fixes e {r} m = let k : In r (keep is_kept rows) = rw (kept-rows rows (conflicts rows) e) m in (keep-in is_kept rows k).0

no-two : (rows kept : List Row) (fixes : List Fix) → verdict rows ≡ passing kept fixes → (d : Text) → TwoSources rows d → ⊥
no-two rows kept fixes e = (passes-exactly rows).0 (rw e tt)

-- without a conflict two rows on one destination have one source
one-source : (rows : List Row) → ((d : Text) → TwoSources rows d → ⊥) → (r q : Row) (d : Text) → In r rows → In q rows → r.destination ≡ some d → q.destination ≡ some d → q.source ≡ r.source
one-source rows none-two r q d h k e f = go (same q.source r.source) refl
  where
    go : (b : Bool) → same q.source r.source ≡ b → q.source ≡ r.source
    go true p = same-is _ _ p
    go false p = absurd (none-two d (record { first = q; second = r; first-in = k; second-in = h; first-onto = f; second-onto = e; different = λ s. true≢false (sym (same-eq s.1) ∙ p) }))

module _ (group : List Spec) (names others : List Text) (back : every reversible group ≡ true) (r : Row) (d n : Text) (on : r.destination ≡ some d) where
  -- a row on d stands among the forward rows as the row of a name
  forward-name : In r (forward_rows group names) → FromGroup forward_ends group names r
  unfolding forward_rows object_rows object_source reversible
  forward-name h = go (in-append (each (numbered group) object_rows) (keep-in (not_excluded group) (each (numbered group) object_rows ++ group_rows forward_ends group names) h).0)
    where
      go : In r (each (numbered group) object_rows) ⊎ In r (group_rows forward_ends group names) → FromGroup forward_ends group names r
      go (inr m) = from-group forward_ends group names r m
      go (inl m) =
          let x = each_in object_rows (numbered group) m in
          let z : r.destination ≡ none = object-none x.0.0 (is_negative x.0.1.mode) x.0.1.source x.0.1.destination (every_in reversible back (numbered-in 0 group x.1).1) x.2 in
          absurd (let z : ◌≡◌ {A = ℕ} 0 1 = cc in omega arith)

  -- the kept row's source stands as the source of d
  to-source : In r (forward_rows group names) → In d others → n ≡ r.source → StandsAsSource (reverse_rows group others) d n
  unfolding forward_rows
  to-source h k e =
      let f = forward-name h in
      let w = forward-made f.spec f.name (row_ends r) f.made in
      let free = excluded-free group r f.is_name (keep-in (not_excluded group) (each (numbered group) object_rows ++ group_rows forward_ends group names) h).1 in
      let m : forward f.spec r.source ≡ mapped (some d) = ap (forward f.spec) (sym w.0) ∙ w.1 ∙ ap {B = Mapped} mapped on in
      rw e (to-reverse group others f.spec r.source d f.spec-in f.positive k (forth f.spec f.positive (every_in reversible back f.spec-in) r.source d m) free)

  -- an item that stands as the source of d is the kept row's source
  from-source : In r (forward_rows group names) → ((e : Text) → TwoSources (forward_rows group names) e → ⊥) → In n names → StandsAsSource (reverse_rows group others) d n → n ≡ r.source
  unfolding reverse_rows
  from-source h none-two k st =
      let q = st.row in
      let f = from-group reverse_ends group others q (keep-in (not_excluded group) (group_rows reverse_ends group others) st.row_in).0 in
      let v = reverse-made f.spec f.name (row_ends q) f.made in
      let free : Free group n = rw st.from-n at (excluded-free group q f.is_name (keep-in (not_excluded group) (group_rows reverse_ends group others) st.row_in).1) in
      let o : f.name ≡ d = cc (v.1, st.onto-d) in
      let m : reverse f.spec d ≡ some n = ap (reverse f.spec) (sym o) ∙ v.0 ∙ ap {B = Option Text} some st.from-n in
      let w = back-again f.spec f.positive (every_in reversible back f.spec-in) n d m in
      let t = to-forward group names f.spec n (some d) f.spec-in f.positive k w free in
      sym t.2 ∙ one-source (forward_rows group names) none-two r t.0 d h t.1 on t.3

-- the third statement of demand 3
pub kept-map-back : KeptMapBack
kept-map-back group names others kept fixes r d n back v m on k i =
    let h = kept_in (forward_rows group names) kept fixes v m in
    (from-source group names others back r d n on h (no-two (forward_rows group names) kept fixes v) i, to-source group names others back r d n on h k)
