-- `conflicts::index::sorted_size` meets its contract: what is measured and the runs that are left make the whole.
use mathlib.Core.Path.{◌≡◌}
use Prim.Native.Nat.{◌-◌}
use lib.ListN.{length}
use Rattle.conflicts.proofs.Wholes.{Walking}
use Rattle.conflicts.proofs.index.sorted_size.Given as goal

abbrev pub invariant-loop-i : goal.invariant-loop-i
invariant-loop-i l = Walking l.specs l.rows l.initial.index l.index l.i l.size × (length l.scratch ≡ length l.initial.scratch)

abbrev pub decreases-loop-i : goal.decreases-loop-i
decreases-loop-i l = length l.initial.index - l.i
