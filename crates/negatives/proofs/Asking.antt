-- One negative after the other asked. Assumes nothing.
use Prim.Native.Nat.{ℕ, zero, suc, ◌+◌, ◌*◌, ◌≤◌, ◌<◌}
use native.Mathlib.Nat.{eq-or-lt_of_le}
use native.Mathlib.Numerals.{add-one}
use native.Mathlib.Omega.{arith}
use mathlib.Core.Path.{◌≡◌, sym, ap, ◌∙◌}
use mathlib.Core.Bool.{Bool, true, false}
use mathlib.Core.List.{List}
use mathlib.Core.Logic.{◌⊎◌, inl, inr}
use lib.ListN.{length}
use Rattle.meaning.specs.Bytes.{Text, ◌or◌}
use Rattle.promises.proofs.Laws.{or_right}
use Rattle.negatives.specs.declared.Negative.{Negative}
use Rattle.negatives.specs.Negatives.{negative_numbers, negative_matches, NegativeWithin, negative_at, excluded_by}

-- where one matches, the name is excluded
one-excludes : (s : Text) (t : List ℕ) (name : Text) (k count : ℕ) → k < count → negative_matches s name (negative_at t k) ≡ true → excluded_by s t count name ≡ true
one-excludes s t name k zero l e = absurd (omega arith)
one-excludes s t name k (suc count) l e = go (eq-or-lt_of_le (let h : k ≤ count = omega arith in h)) (λ m. one-excludes s t name k count m e)
  where
    go : (k ≡ count) ⊎ (k < count) → (k < count → excluded_by s t count name ≡ true) → (excluded_by s t count name or negative_matches s name (negative_at t count)) ≡ true
    go (inl q) f = or_right (excluded_by s t count name) (negative_matches s name (negative_at t count)) (rw q at e)
    go (inr m) f = rw (f m)

module _ (s : Text) (t : List ℕ) (count : ℕ) (name : Text) (k : ℕ) where
  -- the numbers of one are there
  pub asking-room : k < count → negative_numbers * count ≤ length t → negative_numbers * k + negative_numbers ≤ length t
  asking-room l h = omega arith

  module _ (n : Negative) (en : n ≡ negative_at t k) where
    -- and its places
    pub asking-within : k < count → ((j : ℕ) → j < count → NegativeWithin (length s) (negative_at t j)) → NegativeWithin (length s) n
    asking-within l w = rw en (w k l)

    module _ (r : Bool) (er : r ≡ negative_matches s name n) where
      -- it matches
      pub asking-found : k < count → r ≡ true → true ≡ excluded_by s t count name
      asking-found l y = sym (one-excludes s t name k count l (ap (negative_matches s name) (sym en) ∙ sym er ∙ y))

      -- it does not, nor does one before it
      pub asking-more : excluded_by s t k name ≡ false → r ≡ false → excluded_by s t (k + 1) name ≡ false
      asking-more i f = rw (add-one k, i) (ap (negative_matches s name) (sym en) ∙ sym er ∙ f)

  -- none did
  pub asking-done : count ≤ k → k ≤ count → excluded_by s t k name ≡ false → false ≡ excluded_by s t count name
  asking-done l h i = let e : k ≡ count = omega arith in sym (rw e at i)
