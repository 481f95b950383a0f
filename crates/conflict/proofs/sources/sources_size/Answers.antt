use Rattle.conflict.proofs.Listing.{measuring-more, measuring-done, measuring-small}
use Rattle.conflict.proofs.sources.sources_size.Goals as goal

pub loop-p-preserved : goal.loop-p-preserved
loop-p-preserved c = search measuring-more

pub returns : goal.returns
returns c = (search measuring-done, search measuring-small)
