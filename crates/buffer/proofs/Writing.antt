-- A text that is written piece by piece: what is left to write makes the whole. Assumes nothing.
use mathlib.Core.Path.{◌≡◌, refl, sym, ap, ◌∙◌}
use mathlib.Core.List.{[], ◌++◌}
use Prim.Native.Nat.{ℕ, ◌+◌, ◌≤◌}
use native.Mathlib.Omega.{arith}
use lib.ListN.{length, length-append}
use Rattle.meaning.specs.Bytes.{Text}
use Rattle.buffer.specs.Splice.{splice}
use Rattle.buffer.proofs.Splices.{length-splice, splice-none, splice-splice}

-- whole is written into d from `at` on as far as i, where out is the buffer now, and left is what follows
pub record Writing (d : Text) (at : ℕ) (whole out : Text) (i : ℕ) (left : Text) : Type 0 where
  pub fits : at + length whole ≤ length d
  pub kept : length out ≡ length d
  pub ends : i + length left ≡ at + length whole
  pub makes : splice out i left ≡ splice d at whole

-- nothing is written yet
pub writing-starts : (d : Text) (at : ℕ) (whole : Text) → at + length whole ≤ length d → Writing d at whole d at whole
writing-starts d at whole h = record { fits = h; kept = refl; ends = refl; makes = refl }

module _ (d : Text) (at : ℕ) (whole out : Text) (i : ℕ) (left : Text) (w : Writing d at whole out i left) where
  -- there is room for the next piece
  pub writing-room : (s rest : Text) → left ≡ s ++ rest → i + length s ≤ length out
  writing-room s rest e = omega (arith, ap length e, length-append s rest)

  -- the next piece is written
  pub writing_more : (s rest : Text) → left ≡ s ++ rest → (next : Text) (j : ℕ) → next ≡ splice out i s → j ≡ i + length s → Writing d at whole next j rest
  writing_more s rest e next j p q =
      let room = writing-room s rest e in
      record {
        fits = w.fits;
        kept = ap length p ∙ length-splice out i s room ∙ w.kept;
        ends = omega (arith, ap length e, length-append s rest);
        makes = rw (p, q) (splice-splice out i s rest room) ∙ rw e at w.makes;
      }

  -- nothing is left
  pub written-place : left ≡ [] → i ≡ at + length whole
  written-place e = let h : length left ≡ 0 = ap length e in omega arith

  pub written-whole : left ≡ [] → out ≡ splice d at whole
  written-whole e = sym (splice-none out i) ∙ rw e at w.makes
