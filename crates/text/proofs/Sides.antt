-- The sides of a spec by the place of its last colon. Assumes nothing.
use mathlib.Core.Path.{◌≡◌, refl, sym, ap, ◌∙◌}
use mathlib.Core.Bool.{Bool, true, false}
use mathlib.Core.List.{[], ◌∷◌}
use Prim.Native.Nat.{ℕ, zero, suc, ◌-◌, ◌<◌}
use native.Mathlib.Omega.{arith}
use lib.Dec.{eqb}
use lib.ListN.{take, drop}
use Rattle.meaning.specs.Bytes.{Text, colon}
use Rattle.meaning.specs.Spec.{Sides, one, two, sides_next, sides_of}
use Rattle.text.specs.Last.{past_last, past_next}

-- a text split where its last colon was passed at n; 0: it has none
abbrev split_at : ℕ → Text → Sides
split_at zero s = one s
split_at (suc n) s = two (take n s) (drop (suc n) s)

split-next : (x : ℕ) (here : Bool) (n : ℕ) (s : Text) → eqb colon x ≡ here → sides_next x (split_at n s) ≡ split_at (past_next here n) (x ∷ s)
split-next x true zero s e = rw e
split-next x false zero s e = rw e
split-next x here (suc n) s e = refl

-- the sides are the text split past its last colon
split-last : (s : Text) → sides_of s ≡ split_at (past_last colon s) s
split-last [] = refl
split-last (x ∷ s) = ap (sides_next x) (split-last s) ∙ split-next x (eqb colon x) (past_last colon s) s refl

module _ (s : Text) (k : ℕ) (at : k ≡ past_last colon s) where
  -- no colon: the text is its one side
  pub sides-one : k ≡ 0 → sides_of s ≡ one s
  sides-one z = split-last s ∙ ap (λ (n : ℕ). split_at n s) (sym at ∙ z)

  -- a colon: what stands before it, and what stands after it
  pub sides-two : 0 < k → sides_of s ≡ two (take (k - 1) s) (drop k s)
  sides-two h =
      let e : k ≡ suc (k - 1) = omega arith in
      split-last s ∙ ap (λ (n : ℕ). split_at n s) (sym at ∙ e) ∙ ap (λ (n : ℕ). two (take (k - 1) s) (drop n s)) (sym e)
