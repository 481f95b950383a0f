-- A part of a text: the slice that it is, its length, and a side that is one. Assumes nothing.
use Prim.Native.Nat.{ℕ, ◌+◌, ◌-◌, ◌≤◌}
use native.Mathlib.Omega.{arith}
use mathlib.Core.Path.{◌≡◌, refl}
use lib.ListN.{length, take, drop, length-take, length-drop}
use Rattle.meaning.specs.Bytes.{Text, present}
use Rattle.parse.specs.declared.types.Side.{Side}
use Rattle.parse.specs.declared.types.Side.TheVariants.{Absent, Part, Head}
use Rattle.parse.specs.Places.{part_at, side_meant, is_present, Within}

-- a part of so many bytes has as many
pub part_length : (t : Text) (at n : ℕ) → at + n ≤ length t → length (part_at t at n) ≡ n
part_length t at n h = simp (length-take, length-drop) (omega arith)

-- `&t[at..at + n]` is the part
pub part_of : (t : Text) (at n : ℕ) → take (at + n - at) (drop at t) ≡ part_at t at n
part_of t at n = let e : at + n - at ≡ n = omega arith in rw e

-- a side within a text, where it is a part, ends within it
pub part-within : (side : Side) (at n : ℕ) → side ≡ Part at n → (len : ℕ) → Within len side → at + n ≤ len
part-within side at n is len w = rw is at w

-- a side is there if it denotes a text
pub present_meant : (t : Text) (side : Side) → present (side_meant t side) ≡ is_present side
present_meant t Absent = refl
present_meant t (Part at n) = refl
present_meant t Head = refl
