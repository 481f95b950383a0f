-- `conflict::sources::put_sources` meets its contract: what is written and the places that are left make the whole.
use Rattle.conflict.proofs.Listing.{Putting}
use Rattle.conflict.proofs.sources.put_sources.Given as goal

abbrev pub invariant-loop-p : goal.invariant-loop-p
invariant-loop-p l = Putting l.rows l.places l.initial.out l.start l.out l.to l.p-index
