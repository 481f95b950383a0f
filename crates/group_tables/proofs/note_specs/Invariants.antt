-- `group_tables::note_specs` meets its contract: after each turn the specs before number i stand in the table, and their negatives apart.
use lib.ListN.{length}
use Rattle.group_tables.proofs.Stood.{Stood}
use Rattle.group_tables.proofs.note_specs.Given as goal

abbrev pub invariant-loop-i : goal.invariant-loop-i
invariant-loop-i l = Stood l.specs l.records l.initial.table l.table l.initial.negatives l.negatives l.count l.i
