-- A number as one byte of a record, and three of them. Assumes nothing.
use Prim.Native.Nat.{ℕ, ◌+◌, ◌≤◌, ◌<◌}
use native.Mathlib.Omega.{arith}
use mathlib.Core.Path.{◌≡◌, sym, ap, ◌∙◌}
use mathlib.Core.List.{[], ◌∷◌}
use lib.ListN.{length, get_or, drop, length-drop}
use Rattle.meaning.specs.Bytes.{Text}
use Rattle.text.proofs.Rests.{rest-cons}
use Rattle.std.specs.Prelude.{Option, Some, None}
use Rattle.recorded.specs.Field.{field_at}
use Rattle.recorded.proofs.Fields.{field-missed, field-never, stands-field, field_both, field-first}

module _ (s : Text) (at n : ℕ) where
  -- the record is at its end
  pub number-none : length s ≤ at → None ≡ field_at s at (n ∷ [])
  number-none h = field-missed s at (n ∷ []) (field-never s at (n ∷ []) (λ rest e. omega (arith, ap length e, length-drop at s)))

  module _ (h : at < length s) (b : ℕ) (e : b ≡ get_or s at 0) where
    -- it has another number
    pub number-other : (b ≡ n → ⊥) → None ≡ field_at s at (n ∷ [])
    number-other d =
        field-missed s at (n ∷ []) (field-never s at (n ∷ []) (λ rest q. d (e ∙ ap (λ (l : Text). get_or l 0 0) (sym (rest-cons s at h) ∙ q))))

    -- it has this one
    pub number-here : b ≡ n → Some (at + 1) ≡ field_at s at (n ∷ [])
    number-here d =
        stands-field s at (n ∷ []) (omega arith) (at + 1) (record { is = rest-cons s at h ∙ ap (λ (x : ℕ). x ∷ drop (at + 1) s) (sym e ∙ d); within = omega arith })

-- one after another
module _ (s : Text) (at a b c : ℕ) (r : Option ℕ) (f : r ≡ field_at s at (a ∷ [])) where
  pub first-other : r ≡ None → None ≡ field_at s at (a ∷ b ∷ c ∷ [])
  first-other e = field-first s at (a ∷ []) r f e (b ∷ c ∷ [])

  module _ (second : ℕ) (e : r ≡ Some second) (q : Option ℕ) (g : q ≡ field_at s second (b ∷ [])) where
    pub second-other : q ≡ None → None ≡ field_at s at (a ∷ b ∷ c ∷ [])
    second-other d = field_both s at (a ∷ []) r f second e (b ∷ c ∷ []) None (field-first s second (b ∷ []) q g d (c ∷ []))

    pub third-decides : (third : ℕ) → q ≡ Some third → (p : Option ℕ) → p ≡ field_at s third (c ∷ []) → p ≡ field_at s at (a ∷ b ∷ c ∷ [])
    third-decides third d p h = field_both s at (a ∷ []) r f second e (b ∷ c ∷ []) p (field_both s second (b ∷ []) q g third d (c ∷ []) p h)
