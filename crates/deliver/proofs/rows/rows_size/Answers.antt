use Rattle.deliver.proofs.Walks.{measured-starts, measured-more, measured-whole, measured-small}
use Rattle.deliver.proofs.rows.rows_size.Goals as goal

pub loop-r-init : goal.loop-r-init
loop-r-init c = search measured-starts

pub loop-r-preserved : goal.loop-r-preserved
loop-r-preserved c = search measured-more

pub returns : goal.returns
returns c = (search measured-whole, search measured-small)
