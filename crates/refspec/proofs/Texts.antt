-- The text of a side: where it is a part, and how long it is. Assumes nothing.
use Prim.Native.Nat.{ℕ, ◌+◌, ◌≤◌}
use native.Mathlib.Omega.{arith}
use mathlib.Core.Path.{◌≡◌}
use lib.ListN.{length}
use Rattle.meaning.specs.Bytes.{Text}
use Rattle.parse.specs.declared.types.Side.{Side}
use Rattle.parse.specs.declared.types.Side.TheVariants.{Absent, Part, Head}
use Rattle.parse.specs.Places.{part_at, Within}
use Rattle.parse.proofs.Parts.{part_length}
use Rattle.refspec.specs.Instructions.{side_text}

-- the arm of a `match` on a side that is a part
pub text-part : (t : Text) (side : Side) (r : Text) (at n : ℕ) → side ≡ Part at n → r ≡ part_at t at n → r ≡ side_text t side
text-part t side r at n e h = rw e h

-- a side has not many more bytes than the specs
pub side-short : (t : Text) (side : Side) → Within (length t) side → length (side_text t side) ≤ length t + 4
side-short t Absent w = omega arith
side-short t (Part at n) w = omega (arith, part_length t at n w)
side-short t Head w = omega arith
