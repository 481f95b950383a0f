-- The bytes are written right after their length. Assumes nothing.
use Rattle.number.proofs.Texts.{number-room, text-room, text-put, text-ends}
use borrow.Author.Rules.{rules}
use Rattle.row.proofs.put_source.Goals as goal

pub put-i-requires : goal.put-i-requires
put-i-requires c = (search rules, search number-room)

pub put_row_text-requires : goal.put_row_text-requires
put_row_text-requires c = (search rules, search text-room)

pub returns : goal.returns
returns c = (search text-put, search text-ends)
