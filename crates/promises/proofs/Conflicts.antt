-- Demand 3, first: conflicts, exactly. Assumes nothing.
use mathlib.Core.Path.{◌≡◌, refl, sym, ap, ◌∙◌}
use mathlib.Core.Logic.{◌↔◌}
use mathlib.Core.Bool.{Bool, true, false, not, false≢true}
use mathlib.Core.List.{List, [], ◌∷◌}
use mathlib.Core.Option.{Option, none, some}
use borrow.Author.Tests.{eq-eqb, eqb-true, not-true}
use lib.Dec.{eqb}
use Rattle.meaning.specs.Bytes.{Text, ◌and◌, any, keep, each, same, in_order}
use Rattle.meaning.specs.Bytes.{In, here}
use Rattle.meaning.specs.Rows.{Row}
use Rattle.meaning.specs.Validation.{differ, destination_of, is_text, onto, rows_onto, in_conflict, Conflict, conflict_on, conflicts, pass_unless, verdict}
use Rattle.meaning.specs.Entries.{verdict_on, validated}
use Rattle.promises.specs.Terms.{SameSource, TwoSources, NamesConflict, Passes}
use Rattle.promises.specs.Demands.{ConflictsExactly}
use Rattle.promises.proofs.Laws.{and_left, and_right, and_both, same-is, same_refl, same-eq, in-keep, keep-in, in-any, any-in, in-each, in_map, map-in, in_order_lem}

-- sources that differ are not one
pub differ-is : (r q : Row) → differ r q ≡ true → SameSource r q → ⊥
unfolding differ
differ-is r q e s =
    let p : (eqb r.kind q.kind and same r.source q.source) ≡ false = not-true _ e in
    false≢true (sym p ∙ and_both (eq-eqb _ _ s.0) (same-eq s.1))

-- and the other way
pub is-differ : (r q : Row) → (SameSource r q → ⊥) → differ r q ≡ true
unfolding differ
is-differ r q n = go (eqb r.kind q.kind and same r.source q.source) refl
  where
    go : (b : Bool) → (eqb r.kind q.kind and same r.source q.source) ≡ b → not b ≡ true
    go true e = absurd (n (eqb-true _ _ (and_left _ _ e), same-is _ _ (and_right (eqb r.kind q.kind) _ e)))
    go false e = refl

-- a row onto d has the destination d
pub onto-is : (d : Text) (r : Row) → onto d r ≡ true → r.destination ≡ some d
unfolding onto
onto-is d r e = go r.destination e
  where
    go : (o : Option Text) → is_text d o ≡ true → o ≡ some d
    go none p = absurd (false≢true p)
    go (some t) p = ap {B = Option Text} some (sym (same-is d t p))

-- and the other way
pub is-onto : (d : Text) (r : Row) → r.destination ≡ some d → onto d r ≡ true
unfolding onto
is-onto d r e = rw e (same_refl d)

-- a destination is found in conflict if two rows put different sources on it
two-found : (rows : List Row) (d : Text) → TwoSources rows d → in_conflict rows d ≡ true
unfolding in_conflict
two-found rows d t =
    in-any (λ r. any (differ r) (rows_onto rows d)) (in-keep (onto d) t.first-in (is-onto d t.first t.first-onto))
    (in-any (differ t.first) (in-keep (onto d) t.second-in (is-onto d t.second t.second-onto)) (is-differ t.first t.second t.different))

-- and only then
pub found-two : (rows : List Row) (d : Text) → in_conflict rows d ≡ true → TwoSources rows d
unfolding in_conflict
found-two rows d e =
    let a = any-in (λ r. any (differ r) (rows_onto rows d)) (rows_onto rows d) e in
    let b = any-in (differ a.0) (rows_onto rows d) a.2 in
    let p = keep-in (onto d) rows a.1 in
    let q = keep-in (onto d) rows b.1 in
    record {
      first = a.0;
      second = b.0;
      first-in = p.0;
      second-in = q.0;
      first-onto = onto-is d a.0 p.1;
      second-onto = onto-is d b.0 q.1;
      different = differ-is a.0 b.0 b.2;
    }

-- the destination of a row is among the destinations
destination-in : {rows : List Row} {r : Row} (d : Text) → In r rows → r.destination ≡ some d → In d (each rows destination_of)
unfolding destination_of
destination-in {rows} {r} d h e = in-each destination_of h (rw e here)

-- a destination is the destination of a conflict exactly when two rows put different sources on it
pub conflict-of-two : (rows : List Row) (d : Text) → TwoSources rows d → In (conflict_on rows d) (conflicts rows)
unfolding conflicts
conflict-of-two rows d t = in_map (conflict_on rows) (in-keep (in_conflict rows) (in_order_lem (destination-in d t.first-in t.first-onto)) (two-found rows d t))

-- and only then
pub two-of-conflict : (rows : List Row) (c : Conflict) → In c (conflicts rows) → TwoSources rows c.destination
unfolding conflicts conflict_on
two-of-conflict rows c h =
    let m = map-in (conflict_on rows) (keep (in_conflict rows) (in_order (each rows destination_of))) h in
    let k = keep-in (in_conflict rows) (in_order (each rows destination_of)) m.1 in
    rw m.2 (found-two rows m.0 k.1)

module _ (rows : List Row) where
  -- what is named has two sources
  named-two : (l : List Conflict) → conflicts rows ≡ l → (d : Text) → NamesConflict (pass_unless rows l) d → TwoSources rows d
  named-two [] e d n = elim n [ ]
  named-two (c ∷ l) e d n = rw n.2 at (two-of-conflict rows n.0 (rw e n.1))

  -- what has two sources is named
  two-named : (l : List Conflict) → conflicts rows ≡ l → (d : Text) → TwoSources rows d → NamesConflict (pass_unless rows l) d
  unfolding conflict_on
  two-named [] e d t = let h : In (conflict_on rows d) [] = rw e at (conflict-of-two rows d t) in elim h [ ]
  two-named (c ∷ l) e d t = (conflict_on rows d, rw e at (conflict-of-two rows d t), refl)

  -- where validation passes nothing has two sources
  pub passes_none : (l : List Conflict) → conflicts rows ≡ l → Passes (pass_unless rows l) → (d : Text) → TwoSources rows d → ⊥
  passes_none [] e p d t = two-named [] e d t
  passes_none (c ∷ l) e p d t = p

  -- where nothing has two sources it passes
  none_passes : (l : List Conflict) → conflicts rows ≡ l → ((d : Text) → TwoSources rows d → ⊥) → Passes (pass_unless rows l)
  none_passes [] e n = tt
  none_passes (c ∷ l) e n = n c.destination (two-of-conflict rows c (rw e here))

  -- both, of a verdict
  pub names-exactly : (d : Text) → NamesConflict (verdict rows) d ↔ TwoSources rows d
  unfolding verdict
  names-exactly d = (named-two (conflicts rows) refl d, two-named (conflicts rows) refl d)

  -- both, of a verdict
  pub passes-exactly : Passes (verdict rows) ↔ ((d : Text) → TwoSources rows d → ⊥)
  unfolding verdict
  passes-exactly = (passes_none (conflicts rows) refl, none_passes (conflicts rows) refl)

-- the first statement of demand 3
pub conflicts-exactly : ConflictsExactly
unfolding verdict_on validated
conflicts-exactly specs list group rows e f = (verdict rows, rw (e, f), names-exactly rows, passes-exactly rows, rw (e, f))
