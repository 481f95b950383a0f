-- `buffer::put_lower` meets its contract: after each turn one byte more stands in lower case.
use Rattle.buffer.proofs.Lowers.{Lowering}
use Rattle.buffer.proofs.put_lower.Given as goal

abbrev pub invariant-loop-i : goal.invariant-loop-i
invariant-loop-i l = Lowering l.initial.dst l.at l.src l.dst l.i
