-- What the filter stops has no row.
use Rattle.search.proofs.Finding.{stops-on}
use Rattle.search.proofs.listing.ForwardListing.filter.Goals as goal

pub returns : goal.returns
returns c = search stops-on
