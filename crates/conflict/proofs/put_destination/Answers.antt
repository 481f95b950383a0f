-- `conflict::put_destination` meets its contract: the text that its place denotes.
use Rattle.conflict.proofs.Shares.{destination-room, destination-put, destination-after}
use borrow.Author.Rules.{rules}
use Rattle.conflict.proofs.put_destination.Goals as goal

pub put_text-requires : goal.put_text-requires
put_text-requires c = (search rules, search rules, search destination-room)

pub returns : goal.returns
returns c = (search destination-put, search destination-after)
