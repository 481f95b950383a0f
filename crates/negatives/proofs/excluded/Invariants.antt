-- `negatives::excluded` meets its contract: none of the negatives before number k matches the name.
use mathlib.Core.Path.{◌≡◌}
use mathlib.Core.Bool.{false}
use Prim.Native.Nat.{◌≤◌}
use Rattle.negatives.specs.Negatives.{excluded_by}
use Rattle.negatives.proofs.excluded.Given as goal

abbrev pub invariant-loop-k : goal.invariant-loop-k
invariant-loop-k l = (l.k ≤ l.count) × (excluded_by l.specs l.negatives l.k l.name ≡ false)
