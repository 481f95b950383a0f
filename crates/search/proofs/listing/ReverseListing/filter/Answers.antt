-- What the filter stops has no row.
use Rattle.search.proofs.Finding.{stops-back}
use Rattle.search.proofs.listing.ReverseListing.filter.Goals as goal

pub returns : goal.returns
returns c = search stops-back
