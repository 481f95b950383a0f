-- `negatives::excluded_pieces` meets its contract: none of the negatives before number k matches the name in pieces.
use mathlib.Core.Path.{◌≡◌}
use mathlib.Core.Bool.{false}
use mathlib.Core.List.{◌++◌}
use Prim.Native.Nat.{◌≤◌}
use Rattle.negatives.specs.Negatives.{excluded_by}
use Rattle.negatives.proofs.excluded_pieces.Given as goal

abbrev pub invariant-loop-i : goal.invariant-loop-i
invariant-loop-i l = (l.i ≤ l.count) × (excluded_by l.specs l.negatives l.i (l.a ++ (l.b ++ l.c)) ≡ false)
