-- The entries that are left tell whether the text stands there. Assumes nothing.
use Rattle.prefixes.proofs.Tables.{Looked}
use Rattle.prefixes.proofs.table.has.Given as goal

abbrev pub invariant-loop-e : goal.invariant-loop-e
invariant-loop-e l = Looked l.specs l.table l.t l.e-index
