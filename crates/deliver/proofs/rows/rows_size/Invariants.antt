-- `deliver::rows::rows_size` meets its contract: what is measured and the rows that are left make the whole.
use Prim.Native.Nat.{◌-◌}
use lib.ListN.{length}
use Rattle.deliver.proofs.Walks.{Measured}
use Rattle.deliver.proofs.rows.rows_size.Given as goal

abbrev pub invariant-loop-r : goal.invariant-loop-r
invariant-loop-r l = Measured l.list l.c.at l.size

abbrev pub decreases-loop-r : goal.decreases-loop-r
decreases-loop-r l = length l.list - l.c.at
