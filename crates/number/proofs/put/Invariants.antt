-- `number::put` meets its contract: the bytes that are left to write make the whole, and each turn writes the first of them.
use Rattle.number.proofs.Writing.{Putting}
use Rattle.number.proofs.put.Given as goal

abbrev pub invariant-loop-rest : goal.invariant-loop-rest
invariant-loop-rest l = Putting l.initial.out l.at l.n l.out l.i l.rest

abbrev pub decreases-loop-rest : goal.decreases-loop-rest
decreases-loop-rest l = l.rest
