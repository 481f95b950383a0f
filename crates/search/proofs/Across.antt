-- What numbers in a row give: the next one's, and then those that are left. Assumes nothing.
use mathlib.Core.Path.{◌≡◌, refl, sym, ap, ◌∙◌}
use mathlib.Core.List.{List, [], ◌++◌}
use Prim.Native.Nat.{ℕ, zero, suc, ◌+◌, ◌-◌, ◌≤◌, ◌<◌}
use native.Mathlib.Omega.{arith}
use native.Mathlib.Numerals.{add-one}
use lib.ListN.{length, length-append}
use Rattle.search.specs.Hits.{across}

module _ {B : Type 0} (f : ℕ → List B) where
  pub across-next : (i n : ℕ) → i < n → across f i (n - i) ≡ f i ++ across f (i + 1) (n - (i + 1))
  across-next i n h =
      let e : n - i ≡ suc (n - (i + 1)) = omega arith in
      rw (e, add-one i)

  pub across-none : (i n : ℕ) → n ≤ i → across f i (n - i) ≡ []
  across-none i n h = let e : n - i ≡ 0 = omega arith in rw e

  -- numbers that give nothing are passed over
  pub across-skip : (i k n : ℕ) → i + k ≤ n → ((x : ℕ) → i ≤ x → x < i + k → f x ≡ []) → across f i (n - i) ≡ across f (i + k) (n - (i + k))
  across-skip i zero n h g = let e : i + 0 ≡ i = omega arith in rw e
  across-skip i (suc k) n h g =
      let e : i + suc k ≡ i + 1 + k = omega arith in
      across-next i n (omega arith)
      ∙ rw (g i (omega arith) (omega arith)) (across-skip (i + 1) k n (omega arith) (λ x a b. g x (omega arith) (omega arith)))
      ∙ ap (λ (j : ℕ). across f j (n - j)) (sym e)

  pub across-jump : (i j n : ℕ) → i ≤ j → j ≤ n → ((x : ℕ) → i ≤ x → x < j → f x ≡ []) → across f i (n - i) ≡ across f j (n - j)
  across-jump i j n a b g =
      let e : i + (j - i) ≡ j = omega arith in
      across-skip i (j - i) n (omega arith) (λ x p q. g x p (omega arith)) ∙ ap (λ (j : ℕ). across f j (n - j)) e

  -- at most one each
  pub across-few : ((x : ℕ) → length (f x) ≤ 1) → (i k : ℕ) → length (across f i k) ≤ k
  across-few g i zero = omega arith
  across-few g i (suc k) = omega (arith, length-append (f i) (across f (suc i) k), g i, across-few g (suc i) k)

-- two ways to give the same
pub across-same : {B : Type 0} (f g : ℕ → List B) (i k : ℕ) → ((x : ℕ) → i ≤ x → x < i + k → f x ≡ g x) → across f i k ≡ across g i k
across-same f g i zero h = refl
across-same f g i (suc k) h = rw (h i (omega arith) (omega arith), across-same f g (suc i) k (λ x a b. h x (omega arith) (omega arith)))
