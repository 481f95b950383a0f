-- `conflict::sources::put_text` meets its contract: the length, then the bytes.
use Rattle.conflict.proofs.Pieces.{text-number-room, text-bytes-room, text-written, text-after}
use borrow.Author.Rules.{rules}
use Rattle.conflict.proofs.sources.put_text.Goals as goal

pub put-i-requires : goal.put-i-requires
put-i-requires c = (search rules, search text-number-room)

pub put-requires : goal.put-requires
put-requires c = search text-bytes-room

pub returns : goal.returns
returns c = (search text-written, search text-after)
