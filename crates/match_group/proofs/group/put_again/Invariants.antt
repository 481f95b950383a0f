-- What comes first is written by its hits; then what is written, and what the specs that are left give, make the whole.
use mathlib.Core.Path.{◌≡◌}
use Prim.Native.Nat.{◌≤◌}
use lib.ListN.{length}
use Rattle.negatives.specs.Negatives.{excluded_by}
use Rattle.match_group.proofs.Writes.{SpecsWritten}
use Rattle.match_group.proofs.group.put_again.Given as goal

abbrev pub invariant-loop-i : goal.invariant-loop-i
invariant-loop-i g l = SpecsWritten g.D.Direction.back (excluded_by l.specs l.negatives l.scope.negatives) l.specs l.table l.group l.items l.places l.scope.names l.initial.out l.initial.end l.i l.out l.end × (l.i ≤ l.group) × (length l.hits ≡ length l.initial.hits)
