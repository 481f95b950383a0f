-- `frames::candidates_size` meets its contract: what is measured and the records that are left make the whole.
use Rattle.frames.proofs.Candidates.{Measured}
use Rattle.frames.proofs.candidates_size.Given as goal

abbrev pub invariant-loop-k : goal.invariant-loop-k
invariant-loop-k l = Measured l.name l.size l.k
