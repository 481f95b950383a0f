-- `deliver::rows::put_rows` meets its contract: what is written and the rows that are left make the whole.
use Prim.Native.Nat.{◌-◌}
use lib.ListN.{length}
use Rattle.deliver.proofs.Walks.{WrittenRows}
use Rattle.deliver.proofs.rows.put_rows.Given as goal

abbrev pub invariant-loop-r : goal.invariant-loop-r
invariant-loop-r l = WrittenRows l.initial.out l.initial.i l.list l.c.at l.out l.i

abbrev pub decreases-loop-r : goal.decreases-loop-r
decreases-loop-r l = length l.list - l.c.at
