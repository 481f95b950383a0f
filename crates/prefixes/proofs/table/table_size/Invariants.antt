-- What is measured and the entries that are left make the whole. Assumes nothing.
use Rattle.prefixes.proofs.Tables.{Measured}
use Rattle.prefixes.proofs.table.table_size.Given as goal

abbrev pub invariant-loop-e : goal.invariant-loop-e
invariant-loop-e l = Measured l.specs l.table l.size l.e-index
