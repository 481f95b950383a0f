-- `frames::put_candidates` meets its contract: what is written and the records that are left make the whole.
use Rattle.frames.proofs.Candidates.{Listing}
use Rattle.frames.proofs.put_candidates.Given as goal

abbrev pub invariant-loop-k : goal.invariant-loop-k
invariant-loop-k l = Listing l.initial.out l.at l.name l.out l.i l.k
