-- `conflict::sources::sources_size` meets its contract: what is measured and the places that are left make the whole.
use Rattle.conflict.proofs.Listing.{Measuring}
use Rattle.conflict.proofs.sources.sources_size.Given as goal

abbrev pub invariant-loop-p : goal.invariant-loop-p
invariant-loop-p l = Measuring l.rows l.places l.p-index l.size
