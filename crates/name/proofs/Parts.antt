-- The rule on parts, as a rule on each byte and what comes after it. Assumes nothing.
use mathlib.Core.Path.{◌≡◌, refl, sym, ap, ◌∙◌}
use mathlib.Core.Bool.{Bool, true, false, not, cond}
use mathlib.Core.List.{List, [], ◌∷◌, ◌++◌}
use Prim.Native.Nat.{ℕ}
use borrow.Author.Tests.{eqb-true}
use lib.Dec.{T, eqb}
use Rattle.meaning.specs.Bytes.{Text, bytes, slash, ◌and◌, ◌or◌, every, same, begins, ends}
use Rattle.meaning.specs.Names.{parts, parts_next, part_passes, parts_pass}
use Rattle.text.proofs.Rows.{and-true}
use Rattle.compare.proofs.Sames.{same-swap}
use Rattle.name.specs.Rules.{rest_of_lock}
use Rattle.name.proofs.Tails.{tails}

-- the part that a text begins with
abbrev first : Text → Text
first [] = []
first (x ∷ s) = cond (eqb slash x) [] (x ∷ first s)

-- the parts after it
abbrev others : Text → List Text
others [] = []
others (x ∷ s) = cond (eqb slash x) (first s ∷ others s) (others s)

parts_are : (s : Text) → parts s ≡ first s ∷ others s
parts_are [] = refl
parts_are (x ∷ s) = rw (parts_are s) (go (eqb slash x))
  where
    go : (b : Bool) → parts_next b x (first s ∷ others s) ≡ cond b [] (x ∷ first s) ∷ cond b (first s ∷ others s) (others s)
    go true = refl
    go false = refl

-- the first part begins with a dot if the text does
first-dot : (s : Text) → begins (bytes ".") (first s) ≡ begins (bytes ".") s
first-dot [] = refl
first-dot (x ∷ s) = go (eqb slash x) refl
  where
    go : (b : Bool) → eqb slash x ≡ b → begins (bytes ".") (cond b [] (x ∷ first s)) ≡ begins (bytes ".") (x ∷ s)
    go true e = rw (← eqb-true slash x e)
    go false e = refl

both_left : (a b : Bool) → T (a and b) → T a
both_left true b t = tt
both_left false b t = t

both_right : (a b : Bool) → T (a and b) → T b
both_right true b t = t
both_right false b t = absurd t

un : (b : Bool) → T (not b) → b ≡ false
un true t = absurd t
un false t = refl

-- no slash
abbrev in_part : ℕ → Bool
in_part a = not (eqb a slash)

and-or : (a b c : Bool) → (a and (b or c)) ≡ ((a and b) or (a and c))
and-or true b c = refl
and-or false b c = refl

-- the first part is p if the text is p, or begins with p and a slash
first-is : (p s : Text) → T (every in_part p) → same p (first s) ≡ (same p s or begins (p ++ bytes "/") s)
first-is [] [] t = refl
first-is [] (x ∷ s) t = go (eqb slash x)
  where
    go : (b : Bool) → same [] (cond b [] (x ∷ first s)) ≡ (b and true)
    go true = refl
    go false = refl
first-is (a ∷ p) [] t = refl
first-is (a ∷ p) (x ∷ s) t = go (eqb slash x) refl (first-is p s (both_right (in_part a) (every in_part p) t))
  where
    go : (b : Bool) → eqb slash x ≡ b → same p (first s) ≡ (same p s or begins (p ++ bytes "/") s) → same (a ∷ p) (cond b [] (x ∷ first s)) ≡ ((eqb a x and same p s) or (eqb a x and begins (p ++ bytes "/") s))
    go true e r = rw (← eqb-true slash x e, un (eqb a slash) (both_left (in_part a) (every in_part p) t))
    go false e r = ap (λ (b : Bool). eqb a x and b) r ∙ and-or (eqb a x) (same p s) (begins (p ++ bytes "/") s)

lock-is : (s : Text) → same (bytes "lock") (first s) ≡ rest_of_lock s
unfolding rest_of_lock
lock-is s = rw (same-swap s (bytes "lock")) (first-is (bytes "lock") s tt)

-- a slash is not followed by a dot, nor a dot by the rest of `.lock`
abbrev pub part_rule : ℕ → Text → Bool
part_rule x s = not (eqb slash x and begins (bytes ".") s) and not (eqb 46 x and rest_of_lock s)

regroup-slash : (d l r : Bool) → ((not d and not l) and r) ≡ (not d and (not l and r))
regroup-slash true l r = refl
regroup-slash false l r = refl

regroup-lock : (c e r : Bool) → (not (c or e) and r) ≡ (not c and (not e and r))
regroup-lock true e r = refl
regroup-lock false e r = refl

-- the first part does not end with `.lock`, and the others pass
others-tails : (s : Text) → (not (ends (bytes ".lock") (first s)) and every part_passes (others s)) ≡ tails part_rule s
unfolding part_passes
others-tails [] = refl
others-tails (x ∷ s) = go (eqb slash x) refl (others-tails s)
  where
    go : (b : Bool) → eqb slash x ≡ b → (not (ends (bytes ".lock") (first s)) and every part_passes (others s)) ≡ tails part_rule s
        → (not (ends (bytes ".lock") (cond b [] (x ∷ first s))) and every part_passes (cond b (first s ∷ others s) (others s)))
        ≡ ((not (b and begins (bytes ".") s) and not (eqb 46 x and rest_of_lock s)) and tails part_rule s)
    go true e r =
        rw (first-dot s, regroup-slash (begins (bytes ".") s) (ends (bytes ".lock") (first s)) (every part_passes (others s)), r, ← eqb-true slash x e)
        (sym (ap (λ (b : Bool). b and tails part_rule s) (and-true (not (begins (bytes ".") s)))))
    go false e r =
        rw (regroup-lock (eqb 46 x and same (bytes "lock") (first s)) (ends (bytes ".lock") (first s)) (every part_passes (others s)), lock-is s, r)

pub parts-tails : (s : Text) → parts_pass s ≡ (not (begins (bytes ".") s) and tails part_rule s)
unfolding parts_pass part_passes
parts-tails s =
    rw (parts_are s, first-dot s, regroup-slash (begins (bytes ".") s) (ends (bytes ".lock") (first s)) (every part_passes (others s)), others-tails s)
