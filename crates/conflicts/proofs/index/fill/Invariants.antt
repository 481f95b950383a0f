-- `conflicts::index::fill` meets its contract: the places of the rows before the cursor are stored.
use Prim.Native.Nat.{◌-◌}
use lib.ListN.{length}
use Rattle.conflicts.proofs.Filling.{Filling}
use Rattle.conflicts.proofs.index.fill.Given as goal

abbrev pub invariant-loop-r : goal.invariant-loop-r
invariant-loop-r l = Filling l.specs l.rows l.initial.index l.index l.c.at l.n

abbrev pub decreases-loop-r : goal.decreases-loop-r
decreases-loop-r l = length l.rows - l.c.at
