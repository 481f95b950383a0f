-- `row_list::each_row` meets its contract: the rows that are behind and those that are left make the whole.
use Prim.Native.Nat.{◌-◌}
use lib.ListN.{length}
use Rattle.meaning.specs.Rows.{row_record}
use Rattle.list.proofs.Readings.{Reading}
use Rattle.row_list.proofs.each_row.Given as goal

abbrev pub invariant-loop-r : goal.invariant-loop-r
invariant-loop-r l = Reading (row_record l.specs) l.list l.c.at l.count

abbrev pub decreases-loop-r : goal.decreases-loop-r
decreases-loop-r l = length l.list - l.c.at
