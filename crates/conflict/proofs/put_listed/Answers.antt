-- `conflict::put_listed` meets its contract: the head, then the sources.
use Rattle.conflict.proofs.Shares.{head-room, sources-room, listed-put, listed-after}
use borrow.Author.Rules.{rules}
use Rattle.conflict.proofs.put_listed.Goals as goal

pub put_head-i-requires : goal.put_head-i-requires
put_head-i-requires c = (search rules, search rules, search rules, search head-room)

pub put_sources-requires : goal.put_sources-requires
put_sources-requires c = (search rules, search sources-room)

pub returns : goal.returns
returns c = (search listed-put, search listed-after)
