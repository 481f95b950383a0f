-- What is measured and the rows that are left make the whole, of the kept rows and of the fixes. Assumes nothing.
use Prim.Native.Nat.{◌-◌}
use lib.ListN.{length}
use Rattle.kept_rows.specs.Rows.{kept_bytes, row_fix}
use Rattle.kept_rows.proofs.Walks.{Counted}
use Rattle.kept_rows.proofs.measure.Given as goal

abbrev pub invariant-loop-r : goal.invariant-loop-r
invariant-loop-r l = Counted l.specs l.rows kept_bytes l.c.at l.kept × Counted l.specs l.rows row_fix l.c.at l.fixed

abbrev pub decreases-loop-r : goal.decreases-loop-r
decreases-loop-r l = length l.rows - l.c.at
