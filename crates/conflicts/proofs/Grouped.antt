-- The conflicts run by run: the run at the front of a sorted index, and the rest. Assumes nothing.
use mathlib.Core.Path.{◌≡◌, refl, sym, ap, ◌∙◌}
use mathlib.Core.Bool.{Bool, true, false, cond}
use mathlib.Core.List.{List, [], ◌∷◌, ◌++◌}
use mathlib.Core.Option.{Option, none, some}
use Prim.Native.Nat.{ℕ, suc}
use lib.ListN.{get_or, take, drop, take-append-drop}
use Rattle.meaning.specs.Bytes.{Text, keep, each, same, present, or_empty}
use Rattle.meaning.specs.Rows.{Row}
use Rattle.meaning.specs.Validation.{onto, is_text, rows_onto, in_conflict, conflict_on}
use Rattle.promises.proofs.Laws.{same-is, same_refl}
use Rattle.order.specs.Sorting.{Below, Sorted, run_of, run_next, heads_after, heads, Increasing}
use Rattle.keys.specs.Keys.{row_at, same_at, not_after, destination_key}
use Rattle.order.proofs.Sorts.{clash}
use Rattle.order.proofs.Runs.{group-run}
use Rattle.order.proofs.Heads.{Apart, apart_below, apart-heads}
use Rattle.conflict.specs.Shared.{conflict_part}
use Rattle.conflict.specs.Shared.{rows_at, destination_at, OneRun, run_bytes}
use Rattle.conflicts.specs.Indexed.{has_destination, Given}

-- a conflict depends on the rows of its destination only
pub part_by : (a b : List Row) (d : Text) → rows_onto a d ≡ rows_onto b d → conflict_part a d ≡ conflict_part b d
unfolding conflict_part in_conflict conflict_on
part_by a b d e = rw e

keep_append : (test : ℕ → Bool) (a b : List ℕ) → keep test (a ++ b) ≡ keep test a ++ keep test b
keep_append test [] b = refl
keep_append test (x ∷ a) b = go (test x) (keep_append test a b)
  where
    go : (c : Bool) → keep test (a ++ b) ≡ keep test a ++ keep test b → cond c (x ∷ keep test (a ++ b)) (keep test (a ++ b)) ≡ cond c (x ∷ keep test a) (keep test a) ++ keep test b
    go true e = ap (λ (k : List ℕ). x ∷ k) e
    go false e = e

module _ (s : Text) where
  abbrev le : ℕ → ℕ → Bool
  le = not_after destination_key s

  abbrev one : ℕ → ℕ → Bool
  one = same_at destination_key s

  -- the conflict on the destination of p among the rows at places
  abbrev part : List ℕ → ℕ → Text
  part l p = conflict_part (rows_at s (keep (same_at destination_key s p) l)) (destination_at s p)

  -- the conflicts of the rows at places, destination by destination
  abbrev pub walk : List ℕ → Text
  walk l = each (heads (same_at destination_key s) l) (part l)

  heads-run : (p : ℕ) (l : List ℕ) → heads_after one p l ≡ heads one (drop (run_of (one p) l) l)
  heads-run p [] = refl
  heads-run p (y ∷ l) = go (one p y) (heads-run p l)
    where
      go : (b : Bool) → heads_after one p l ≡ heads one (drop (run_of (one p) l) l) → cond b (heads_after one p l) (y ∷ heads_after one y l) ≡ heads one (drop (run_next b (run_of (one p) l)) (y ∷ l))
      go true i = i
      go false i = refl

  -- what follows the run of p has other keys
  rest-apart : (p : ℕ) (l : List ℕ) → Below le p l → Sorted le l → Apart destination_key s p (drop (run_of (one p) l) l)
  rest-apart p [] b o = tt
  rest-apart p (y ∷ l) b o = go (one p y) refl (rest-apart p l b.1 o.1)
    where
      go : (c : Bool) → one p y ≡ c → Apart destination_key s p (drop (run_of (one p) l) l) → Apart destination_key s p (drop (run_next c (run_of (one p) l)) (y ∷ l))
      go true e i = i
      go false e i = (e, apart_below destination_key s p y l b.0 e o.0)

  heads-other : (p : ℕ) (l : List ℕ) → Apart destination_key s p l → Apart destination_key s p (heads one l)
  heads-other p [] a = tt
  heads-other p (y ∷ l) a = (a.0, apart-heads destination_key s p y l a.1)

  other-swap : (p h : ℕ) → one p h ≡ false → one h p ≡ false
  other-swap p h e = go (one h p) refl
    where
      go : (b : Bool) → one h p ≡ b → b ≡ false
      go true f = absurd (clash {b = one p h} (ap (λ (t : Text). same (destination_key s p) t) (same-is (destination_key s h) (destination_key s p) f) ∙ same_refl (destination_key s p)) e)
      go false f = refl

  -- nothing in the run of p has the key of another
  run_none : (p h : ℕ) (l : List ℕ) → one h p ≡ false → keep (one h) (take (run_of (one p) l) l) ≡ []
  run_none p h [] e = refl
  run_none p h (y ∷ l) e = go (one p y) refl (run_none p h l e)
    where
      go : (c : Bool) → one p y ≡ c → keep (one h) (take (run_of (one p) l) l) ≡ [] → keep (one h) (take (run_next c (run_of (one p) l)) (y ∷ l)) ≡ []
      go true f i =
          let g : one h y ≡ false = ap (λ (t : Text). same (destination_key s h) t) (sym (same-is (destination_key s p) (destination_key s y) f)) ∙ e in
          rw g i
      go false f i = refl

  rest-keeps : (p h : ℕ) (l : List ℕ) → one p h ≡ false → keep (one h) l ≡ keep (one h) (drop (run_of (one p) l) l)
  rest-keeps p h l e =
      sym (ap (keep (one h)) (take-append-drop (run_of (one p) l) l)) ∙ keep_append (one h) (take (run_of (one p) l) l) (drop (run_of (one p) l) l) ∙ rw (run_none p h l (other-swap p h e))

  rest-parts : (p : ℕ) (l m : List ℕ) → Apart destination_key s p m → each m (part l) ≡ each m (part (drop (run_of (one p) l) l))
  rest-parts p l [] a = refl
  rest-parts p l (h ∷ m) a = rw (rest-keeps p h l a.0, rest-parts p l m a.1)

  run-first : (p : ℕ) (l : List ℕ) → run_of (one p) (p ∷ l) ≡ suc (run_of (one p) l)
  run-first p l = rw (same_refl (destination_key s p))

  run_is : (p : ℕ) (l : List ℕ) → Sorted le (p ∷ l) → take (run_of (one p) (p ∷ l)) (p ∷ l) ≡ keep (one p) (p ∷ l)
  run_is p l o = group-run destination_key s p l o

  first_of : (p : ℕ) (l : List ℕ) → get_or (keep (one p) (p ∷ l)) 0 0 ≡ p
  first_of p l = rw (same_refl (destination_key s p))

  -- the run at the front, and the rest
  pub walk-run : (p : ℕ) (l : List ℕ) → Sorted le (p ∷ l) → walk (p ∷ l) ≡ run_bytes s (take (run_of (one p) (p ∷ l)) (p ∷ l)) ++ walk (drop (run_of (one p) (p ∷ l)) (p ∷ l))
  unfolding run_bytes
  walk-run p l o =
      let rest = drop (run_of (one p) (p ∷ l)) (p ∷ l) in
      let d : rest ≡ drop (run_of (one p) l) l = rw (run-first p l) in
      let h : heads_after one p l ≡ heads one rest = heads-run p l ∙ rw d in
      let a : Apart destination_key s p (heads one rest) = heads-other p rest (rw d (rest-apart p l o.0 o.1)) in
      rw (run_is p l o, first_of p l) (ap (λ (k : Text). part (p ∷ l) p ++ k) (ap (λ (m : List ℕ). each m (part (p ∷ l))) h ∙ rest-parts p (p ∷ l) (heads one rest) a))

  -- rows on the destination of p
  onto-is : (p q : ℕ) → has_destination (row_at s q) ≡ true → onto (destination_at s p) (row_at s q) ≡ one p q
  unfolding onto destination_at
  onto-is p q h = go (row_at s q).destination h
    where
      go : (o : Option Text) → present o ≡ true → is_text (or_empty (row_at s p).destination) o ≡ same (or_empty (row_at s p).destination) (or_empty o)
      go none h = absurd (clash {b = false} h refl)
      go (some t) h = refl

  pub onto-keep : (p : ℕ) (l : List ℕ) → Given s l → rows_onto (rows_at s l) (destination_at s p) ≡ rows_at s (keep (one p) l)
  onto-keep p [] g = refl
  onto-keep p (q ∷ l) g = rw (onto-is p q g.0) (go (one p q) (onto-keep p l g.1))
    where
      go : (b : Bool) → rows_onto (rows_at s l) (destination_at s p) ≡ rows_at s (keep (one p) l) → cond b (row_at s q ∷ rows_onto (rows_at s l) (destination_at s p)) (rows_onto (rows_at s l) (destination_at s p)) ≡ rows_at s (cond b (q ∷ keep (one p) l) (keep (one p) l))
      go true i = ap (λ (k : List Row). row_at s q ∷ k) i
      go false i = i

  keep-again : (p : ℕ) (l : List ℕ) → keep (one p) (keep (one p) l) ≡ keep (one p) l
  keep-again p [] = refl
  keep-again p (q ∷ l) = go (one p q) refl (keep-again p l)
    where
      go : (b : Bool) → one p q ≡ b → keep (one p) (keep (one p) l) ≡ keep (one p) l → keep (one p) (cond b (q ∷ keep (one p) l) (keep (one p) l)) ≡ cond b (q ∷ keep (one p) l) (keep (one p) l)
      go true e i = rw e (ap (λ (k : List ℕ). q ∷ k) i)
      go false e i = i

  given-keep : (test : ℕ → Bool) (l : List ℕ) → Given s l → Given s (keep test l)
  given-keep test [] g = tt
  given-keep test (q ∷ l) g = go (test q) (given-keep test l g.1)
    where
      go : (b : Bool) → Given s (keep test l) → Given s (cond b (q ∷ keep test l) (keep test l))
      go true i = (g.0, i)
      go false i = i

  pub onto-again : (p : ℕ) (l : List ℕ) → Given s l → rows_onto (rows_at s (keep (one p) l)) (destination_at s p) ≡ rows_at s (keep (one p) l)
  onto-again p l g = onto-keep p (keep (one p) l) (given-keep (one p) l g) ∙ ap (rows_at s) (keep-again p l)

  -- the run at the front is one
  pub run-shares : (p : ℕ) (l : List ℕ) → Sorted le (p ∷ l) → Given s (p ∷ l) → Increasing (keep (one p) (p ∷ l)) → OneRun s (take (run_of (one p) (p ∷ l)) (p ∷ l))
  run-shares p l o g a = rw (run_is p l o) (record { shared = rw (first_of p l) (onto-again p (p ∷ l) g); ascends = a })
