use Rattle.kept_rows.proofs.Walks.{row-taken, kept-starts, fixes-starts, written-short, kept-room, fixes-room, written-more, kept-written, kept-length, fixes-written, fixes-length}
use Rattle.kept_rows.proofs.put_rows.Goals as goal

pub loop-r-init : goal.loop-r-init
loop-r-init c = (search kept-starts, search fixes-starts)

pub put_either-to-requires : goal.put_either-to-requires
put_either-to-requires c = (search row-taken, search written-short, search kept-room, search fixes-room)

pub loop-r-preserved : goal.loop-r-preserved
loop-r-preserved c = (search written-more, search written-more)

pub returns : goal.returns
returns c = (search kept-written, search fixes-written, search kept-length, search fixes-length)
