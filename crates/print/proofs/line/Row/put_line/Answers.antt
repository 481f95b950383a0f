-- `print::line::Row::put_line` meets its contract: the numbers, the source and the destination, one after the other.
use Rattle.print.proofs.Lines.{start-room, source-room, destination-room, line-put, line-ends}
use Rattle.print.proofs.line.Row.put_line.Goals as goal

pub put_start-i-requires : goal.put_start-i-requires
put_start-i-requires c = search start-room

pub put_text-j-requires : goal.put_text-j-requires
put_text-j-requires c = search source-room

pub put_destination-requires : goal.put_destination-requires
put_destination-requires c = search destination-room

pub returns : goal.returns
returns c = (search line-put, search line-ends)
