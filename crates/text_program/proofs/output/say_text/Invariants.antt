-- Each turn prints up to the next byte that is not printed as it is, and that byte. Assumes nothing.
use Rattle.std.proofs.Common.{length}
use Rattle.text_program.proofs.Saying.{Printed}
use Rattle.text_program.proofs.output.say_text.Given as goal

abbrev pub invariant-loop-at : goal.invariant-loop-at
invariant-loop-at g l = Printed (g.W.Write.contents l.initial.to) (g.W.Write.contents l.to) l.t l.rest

abbrev pub decreases-loop-at : goal.decreases-loop-at
decreases-loop-at g l = length l.rest
