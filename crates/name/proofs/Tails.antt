-- Rules on each byte of a text and on what comes after it. Assumes nothing.
use mathlib.Core.Path.{◌≡◌, refl, ap, ap₂, ◌∙◌}
use mathlib.Core.Bool.{Bool, true, false, not}
use mathlib.Core.List.{[], ◌∷◌}
use Prim.Native.Nat.{ℕ}
use lib.Dec.{eqb}
use Rattle.meaning.specs.Bytes.{Text, ◌and◌, ◌or◌, every, same, begins, ends, holds, has_byte}

-- the rule holds of each byte and what comes after it
abbrev pub tails : (ℕ → Text → Bool) → Text → Bool
tails rule [] = true
tails rule (x ∷ s) = rule x s and tails rule s

not-or : (a b : Bool) → not (a or b) ≡ (not a and not b)
not-or true b = refl
not-or false b = refl

interchange : (a b c d : Bool) → ((a and b) and (c and d)) ≡ ((a and c) and (b and d))
interchange false b c d = refl
interchange true false false d = refl
interchange true false true d = refl
interchange true true c d = refl

-- two rules asked one after the other are both asked at each byte
both : (f g : ℕ → Text → Bool) (s : Text) → (tails f s and tails g s) ≡ tails (λ (x : ℕ) (t : Text). f x t and g x t) s
both f g [] = refl
both f g (x ∷ s) = interchange (f x s) (tails f s) (g x s) (tails g s) ∙ ap (λ (b : Bool). (f x s and g x s) and b) (both f g s)

pub join : (f g : ℕ → Text → Bool) (a b : Bool) (s : Text) → a ≡ tails f s → b ≡ tails g s → (a and b) ≡ tails (λ (x : ℕ) (t : Text). f x t and g x t) s
join f g a b s d e = ap₂ ◌and◌ d e ∙ both f g s

-- rules that are the same everywhere
pub alike : (f g : ℕ → Text → Bool) → ((x : ℕ) (t : Text) → f x t ≡ g x t) → (s : Text) → tails f s ≡ tails g s
alike f g h [] = refl
alike f g h (x ∷ s) = ap₂ ◌and◌ (h x s) (alike f g h s)

-- a rule of each byte by itself
pub every-tails : (f : ℕ → Bool) (s : Text) → every f s ≡ tails (λ (x : ℕ) (t : Text). f x) s
every-tails f [] = refl
every-tails f (x ∷ s) = ap (λ (b : Bool). f x and b) (every-tails f s)

pub lacks-tails : (b : ℕ) (s : Text) → not (has_byte b s) ≡ tails (λ (x : ℕ) (t : Text). not (eqb b x)) s
lacks-tails b [] = refl
lacks-tails b (x ∷ s) = not-or (eqb b x) (has_byte b s) ∙ ap (λ (r : Bool). not (eqb b x) and r) (lacks-tails b s)

-- a text stands nowhere, or not at the end: it begins at no byte
module _ (a : ℕ) (p : Text) where
  pub holds-tails : (s : Text) → not (holds (a ∷ p) s) ≡ tails (λ (x : ℕ) (t : Text). not (begins (a ∷ p) (x ∷ t))) s
  holds-tails [] = refl
  holds-tails (x ∷ s) = not-or (begins (a ∷ p) (x ∷ s)) (holds (a ∷ p) s) ∙ ap (λ (b : Bool). not (begins (a ∷ p) (x ∷ s)) and b) (holds-tails s)

  pub ends-tails : (s : Text) → not (ends (a ∷ p) s) ≡ tails (λ (x : ℕ) (t : Text). not (same (a ∷ p) (x ∷ t))) s
  ends-tails [] = refl
  ends-tails (x ∷ s) = not-or (same (a ∷ p) (x ∷ s)) (ends (a ∷ p) s) ∙ ap (λ (b : Bool). not (same (a ∷ p) (x ∷ s)) and b) (ends-tails s)
