-- `expand::Yield::put` meets its contract: nothing is no byte, and a text is written right after its number.
use Rattle.expand.proofs.Lists.{one-within, one-room, record-number-room, record-side-room, record-put, put-nothing, put_one}
use borrow.Author.Rules.{rules}
use Rattle.expand.proofs.Yield.put.Goals as goal

pub put-i-requires : goal.put-i-requires
put-i-requires c = (search rules, search (record-number-room, one-room))

pub put_side-requires : goal.put_side-requires
put_side-requires c = (search one-within, search (record-side-room, one-room))

pub returns-in-Nothing : goal.returns-in-Nothing
returns-in-Nothing c = search put-nothing

pub returns-in-One : goal.returns-in-One
returns-in-One c = search (put_one, record-put, one-room)
