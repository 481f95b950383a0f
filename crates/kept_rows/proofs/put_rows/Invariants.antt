-- What is written and the rows that are left make the whole, of the kept rows and of the fixes. Assumes nothing.
use Prim.Native.Nat.{◌-◌}
use lib.ListN.{length}
use Rattle.kept_rows.specs.Rows.{kept_bytes, row_fix}
use Rattle.kept_rows.proofs.Walks.{WrittenRows}
use Rattle.kept_rows.proofs.put_rows.Given as goal

abbrev pub invariant-loop-r : goal.invariant-loop-r
invariant-loop-r l = WrittenRows l.specs l.rows kept_bytes l.initial.out l.c.at l.out l.to.kept × WrittenRows l.specs l.rows row_fix l.initial.fixes l.c.at l.fixes l.to.fixed

abbrev pub decreases-loop-r : goal.decreases-loop-r
decreases-loop-r l = length l.rows - l.c.at
