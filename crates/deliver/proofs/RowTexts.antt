-- A row of places, as its line has it. Assumes nothing.
use mathlib.Core.Path.{◌≡◌, refl}
use mathlib.Core.Bool.{false}
use Prim.Native.Nat.{◌≤◌}
use native.Mathlib.Omega.{arith}
use lib.ListN.{length}
use Rattle.std.specs.Prelude.{None}
use Rattle.meaning.specs.Bytes.{Text}
use Rattle.meaning.specs.Limits.{program_bytes}
use Rattle.parse.specs.declared.types.Side.{Side}
use Rattle.parse.specs.declared.types.Side.TheVariants.{Absent, Part, Head}
use Rattle.parse.specs.Places.{side_meant, is_present, Within}
use Rattle.parse.proofs.Parts.{part_length}
use Rattle.refspec.specs.Instructions.{side_text}
use Rattle.print.specs.Lines.{lent}

-- an absent side
pub side-absent : (s : Text) (side : Side) → is_present side ≡ false → lent None ≡ side_meant s side
side-absent s Absent y = refl
side-absent s (Part at n) y = cc
side-absent s Head y = cc

-- and its length
pub side-short : (s : Text) (side : Side) → length s ≤ program_bytes → Within (length s) side → length (side_text s side) ≤ program_bytes
side-short s Absent h w = omega arith
side-short s (Part at n) h w = omega (arith, part_length s at n w)
side-short s Head h w = omega arith
