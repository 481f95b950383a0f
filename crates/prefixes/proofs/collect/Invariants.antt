-- What is entered and what the other specs yield make the whole. Assumes nothing.
use Rattle.prefixes.proofs.Adding.{Collecting}
use Rattle.prefixes.proofs.collect.Given as goal

abbrev pub invariant-loop-i : goal.invariant-loop-i
invariant-loop-i l = Collecting l.op l.specs l.group l.n l.initial.table l.initial.scratch l.table l.scratch l.count l.i
