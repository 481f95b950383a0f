use Rattle.kept_rows.proofs.Walks.{within_more, counted-starts, counted-more, fix-counted, kept-counted, fixes-counted}
use Rattle.kept_rows.proofs.measure.Goals as goal

pub loop-r-init : goal.loop-r-init
loop-r-init c = (search counted-starts, search counted-starts)

pub loop-r-preserved : goal.loop-r-preserved
loop-r-preserved c = (search (counted-more, within_more), search fix-counted)

pub returns : goal.returns
returns c = (search kept-counted, search fixes-counted)
