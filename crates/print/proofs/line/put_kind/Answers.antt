-- `print::line::put_kind` meets its contract: the word, and then a byte.
use Rattle.print.proofs.Fields.{word-room, word-end, word_put, word-ends}
use Rattle.print.proofs.line.put_kind.Goals as goal

pub put-i-requires : goal.put-i-requires
put-i-requires c = search word-room

pub put_byte-requires : goal.put_byte-requires
put_byte-requires c = search word-end

pub returns : goal.returns
returns c = (search word_put, search word-ends)
