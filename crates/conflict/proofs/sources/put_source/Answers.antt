-- `conflict::sources::put_source` meets its contract: two numbers, then a text.
use Rattle.conflict.proofs.Pieces.{spec-room, kind-room, source-room, source-written, source-after}
use borrow.Author.Rules.{rules}
use Rattle.conflict.proofs.sources.put_source.Goals as goal

pub put-i-requires : goal.put-i-requires
put-i-requires c = (search rules, search spec-room)

pub put-j-requires : goal.put-j-requires
put-j-requires c = (search rules, search kind-room)

pub put_text-requires : goal.put_text-requires
put_text-requires c = (search rules, search rules, search source-room)

pub returns : goal.returns
returns c = (search source-written, search source-after)
