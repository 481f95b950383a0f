-- `buffer::copy::put_by_eights` meets its contract: after each turn eight bytes more of the copy stand, and the last eight complete it.
use Rattle.buffer.proofs.Copies.{Copied}
use Rattle.buffer.proofs.copy.put_by_eights.Given as goal

abbrev pub invariant-loop-i : goal.invariant-loop-i
invariant-loop-i l = Copied l.initial.dst l.at l.src l.dst l.i
