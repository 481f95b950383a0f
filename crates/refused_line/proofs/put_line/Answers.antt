-- Three pieces, one after the other. Assumes nothing.
use Rattle.refused_line.proofs.Messages.{line_first, line_second, line-third, line-put, line-end}
use Rattle.refused_line.proofs.put_line.Goals as goal

pub put-i-requires : goal.put-i-requires
put-i-requires c = search line_first

pub put_number-j-requires : goal.put_number-j-requires
put_number-j-requires c = search line_second

pub put-requires : goal.put-requires
put-requires c = search line-third

pub returns : goal.returns
returns c = (search line-put, search line-end)
