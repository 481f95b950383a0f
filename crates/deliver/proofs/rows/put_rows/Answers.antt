use Rattle.deliver.proofs.Walks.{row-stands, written-starts, written-room, written-more, written-put, written-ends}
use Rattle.deliver.proofs.rows.put_rows.Goals as goal

pub loop-r-init : goal.loop-r-init
loop-r-init c = search written-starts

pub put_row-i-requires : goal.put_row-i-requires
put_row-i-requires c = (search row-stands, search written-room)

pub loop-r-preserved : goal.loop-r-preserved
loop-r-preserved c = search written-more

pub returns : goal.returns
returns c = (search written-put, search written-ends)
