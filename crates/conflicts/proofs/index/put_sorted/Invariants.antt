-- `conflicts::index::put_sorted` meets its contract: what is written and the runs that are left make the whole.
use mathlib.Core.Path.{◌≡◌}
use Prim.Native.Nat.{◌-◌}
use lib.ListN.{length}
use Rattle.conflicts.proofs.Wholes.{Putting}
use Rattle.conflicts.proofs.index.put_sorted.Given as goal

abbrev pub invariant-loop-i : goal.invariant-loop-i
invariant-loop-i l = Putting l.specs l.rows l.initial.index l.index l.i l.initial.out l.out l.to × (length l.scratch ≡ length l.initial.scratch)

abbrev pub decreases-loop-i : goal.decreases-loop-i
decreases-loop-i l = length l.initial.index - l.i
