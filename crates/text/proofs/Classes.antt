-- A `match` on a number returns what a test f says: one computed check for each arm. Assumes nothing.
use mathlib.Core.Path.{◌≡◌, refl}
use mathlib.Core.Logic.{◌⊎◌, inl, inr}
use mathlib.Core.Bool.{Bool, true, false, beq}
use mathlib.Core.List.{List, [], ◌∷◌}
use Prim.Native.Nat.{ℕ, zero, suc, ◌+◌, ◌≤◌, ◌<◌}
use native.Mathlib.Nat.{eq-or-lt_of_le, not-le_of_lt}
use native.Mathlib.Omega.{arith}
use lib.Dec.{T, eqb, eqb→eq}
use types.Run.{OneOf}
use Rattle.meaning.specs.Bytes.{◌and◌, ◌or◌, any}

both_left : (a b : Bool) → T (a and b) → T a
both_left true b t = tt
both_left false b t = t

both_right : (a b : Bool) → T (a and b) → T b
both_right true b t = t
both_right false b t = absurd t

is : (a b : Bool) → T (beq a b) → b ≡ a
is true true t = refl
is true false t = absurd t
is false true t = absurd t
is false false t = refl

-- f is v at each key
abbrev pub at_keys : (ℕ → Bool) → Bool → List ℕ → Bool
at_keys f v [] = true
at_keys f v (k ∷ ks) = beq (f k) v and at_keys f v ks

-- so it is v at a number that is one of them
pub keys : (f : ℕ → Bool) (v : Bool) (ks : List ℕ) → T (at_keys f v ks) → (x : ℕ) → OneOf ks x → v ≡ f x
keys f v [] t x o = absurd o
keys f v (k ∷ []) t x o = rw o (is (f k) v (both_left (beq (f k) v) true t))
keys f v (k ∷ (l ∷ ks)) t x (inl e) = rw e (is (f k) v (both_left (beq (f k) v) (at_keys f v (l ∷ ks)) t))
keys f v (k ∷ (l ∷ ks)) t x (inr o) = keys f v (l ∷ ks) (both_right (beq (f k) v) (at_keys f v (l ∷ ks)) t) x o

-- x is a key
abbrev pub key : List ℕ → ℕ → Bool
key ks x = any (eqb x) ks

is_key : (ks : List ℕ) (x : ℕ) → T (key ks x) → OneOf ks x
is_key [] x t = absurd t
is_key (k ∷ []) x t = go (eqb x k) refl t
  where
    go : (b : Bool) → eqb x k ≡ b → T (b or false) → x ≡ k
    go true e t = eqb→eq x k (rw e tt)
    go false e t = absurd t
is_key (k ∷ (l ∷ ks)) x t = go (eqb x k) refl t (is_key (l ∷ ks) x)
  where
    go : (b : Bool) → eqb x k ≡ b → T (b or key (l ∷ ks) x) → (T (key (l ∷ ks) x) → OneOf (l ∷ ks) x) → (x ≡ k) ⊎ OneOf (l ∷ ks) x
    go true e t r = inl (eqb→eq x k (rw e tt))
    go false e t r = inr (r t)

-- f is v at each number from lo on, n of them, that is no key
abbrev pub at_span : (ℕ → Bool) → Bool → List ℕ → ℕ → ℕ → Bool
at_span f v ks lo zero = true
at_span f v ks lo (suc n) = (beq (f lo) v or key ks lo) and at_span f v ks (suc lo) n

-- so it is v at a number of the range that is no key
pub span : (f : ℕ → Bool) (v : Bool) (ks : List ℕ) (lo n : ℕ) → T (at_span f v ks lo n) → (x : ℕ) → lo ≤ x → x < lo + n → (OneOf ks x → ⊥) → v ≡ f x
span f v ks lo zero t x l h nk = absurd (not-le_of_lt h (omega arith))
span f v ks lo (suc n) t x l h nk =
    go (eq-or-lt_of_le l) (λ m. span f v ks (suc lo) n (both_right (beq (f lo) v or key ks lo) (at_span f v ks (suc lo) n) t) x m (omega arith) nk)
  where
    either : (b : Bool) → T (b or false) → T b
    either true u = tt
    either false u = u

    here : (b : Bool) → key ks x ≡ b → T (beq (f x) v or b) → v ≡ f x
    here true e u = absurd (nk (is_key ks x (rw e tt)))
    here false e u = is (f x) v (either (beq (f x) v) u)

    go : (lo ≡ x) ⊎ (lo < x) → (lo < x → v ≡ f x) → v ≡ f x
    go (inl e) r = here (key ks x) refl (rw e at (both_left (beq (f lo) v or key ks lo) (at_span f v ks (suc lo) n) t))
    go (inr m) r = r m
