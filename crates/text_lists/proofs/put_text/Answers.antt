-- `text_lists::put_text` meets its contract: the bytes are written right after their number.
use Rattle.number.proofs.Texts.{number-room, text-room, text-put, text-ends}
use borrow.Author.Rules.{rules}
use Rattle.text_lists.proofs.put_text.Goals as goal

pub put-i-requires : goal.put-i-requires
put-i-requires c = (search rules, search number-room)

pub put-requires : goal.put-requires
put-requires c = search text-room

pub returns : goal.returns
returns c = (search text-put, search text-ends)
