-- `print::line::put_start` meets its contract: three fields, one after the other.
use Rattle.buffer.proofs.Threes.{three-first, three-second, three_third, three-put, three-end}
use Rattle.print.specs.Lines.{line_start}
use Rattle.print.proofs.line.put_start.Goals as goal

pub put_item-i-requires : goal.put_item-i-requires
unfolding line_start
put_item-i-requires c = search three-first

pub put_number-j-requires : goal.put_number-j-requires
unfolding line_start
put_number-j-requires c = search three-second

pub put_kind-requires : goal.put_kind-requires
unfolding line_start
put_kind-requires c = search three_third

pub returns : goal.returns
unfolding line_start
returns c = (search three-put, search three-end)
