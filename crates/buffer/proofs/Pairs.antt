-- One text written right after another. Assumes nothing.
use mathlib.Core.Path.{◌≡◌, ap, ◌∙◌}
use mathlib.Core.List.{◌++◌}
use Prim.Native.Nat.{ℕ, ◌+◌, ◌≤◌}
use native.Mathlib.Omega.{arith}
use lib.ListN.{length, length-append}
use Rattle.meaning.specs.Bytes.{Text}
use Rattle.buffer.specs.Splice.{splice}
use Rattle.buffer.proofs.Splices.{length-splice, splice-next}

module _ (d : Text) (at : ℕ) (a b : Text) where
  -- there is room for the first where there is for both
  pub pair-first : at + length (a ++ b) ≤ length d → at + length a ≤ length d
  pair-first h = omega (arith, length-append a b)

  module _ (fits : at + length (a ++ b) ≤ length d) (o : Text) (i : ℕ) (eo : o ≡ splice d at a) (ei : i ≡ at + length a) where
    -- and then for the second
    pub pair-second : i + length b ≤ length o
    pair-second = omega (arith, length-append a b, ap length eo, length-splice d at a (pair-first fits))

    -- both are written
    pub pair_put : (o₂ : Text) → o₂ ≡ splice o i b → o₂ ≡ splice d at (a ++ b)
    pair_put o₂ e = e ∙ rw eo (splice-next d at a b i (pair-first fits) ei)

    -- and end there
    pub pair_end : (j : ℕ) → j ≡ i + length b → j ≡ at + length (a ++ b)
    pair_end j e = omega (arith, length-append a b)
