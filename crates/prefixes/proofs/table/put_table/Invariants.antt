-- What is written and the entries that are left make the whole. Assumes nothing.
use Rattle.prefixes.proofs.Tables.{Listed}
use Rattle.prefixes.proofs.table.put_table.Given as goal

abbrev pub invariant-loop-e : goal.invariant-loop-e
invariant-loop-e l = Listed l.initial.out l.specs l.table l.out l.at l.e-index
