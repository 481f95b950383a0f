-- `print::line::put_refusal` meets its contract: the word, and then the number and a line feed.
use Rattle.print.proofs.Lines.{number-room, refusal-put, refusal-ends}
use Rattle.print.proofs.line.put_refusal.Goals as goal

pub put_number-requires : goal.put_number-requires
put_number-requires c = search number-room

pub returns : goal.returns
returns c = (search refusal-put, search refusal-ends)
