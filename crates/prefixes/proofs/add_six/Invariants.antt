-- Candidate after candidate is entered. Assumes nothing.
use Rattle.prefixes.proofs.Adding.{Adding}
use Rattle.prefixes.proofs.add_six.Given as goal

abbrev pub invariant-loop-frame : goal.invariant-loop-frame
invariant-loop-frame l = Adding l.specs l.name.at l.name.len l.initial.table l.count l.initial.scratch l.table l.scratch l.c l.frame
