-- `conflict::put_head` meets its contract: the destination, then the number.
use Rattle.conflict.proofs.Shares.{first-room, count_room, head-put, head-after}
use borrow.Author.Rules.{rules}
use Rattle.conflict.proofs.put_head.Goals as goal

pub put_destination-i-requires : goal.put_destination-i-requires
put_destination-i-requires c = (search rules, search first-room)

pub put-requires : goal.put-requires
put-requires c = (search rules, search count_room)

pub returns : goal.returns
returns c = (search head-put, search head-after)
