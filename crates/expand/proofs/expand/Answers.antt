-- The yield of the side denotes the prefixes, which are measured before they are written. Assumes nothing.
use Rattle.refspec.proofs.Fronts.{remote-within}
use Rattle.expand.proofs.Lists.{yield-within, expand-list}
use Rattle.buffer.proofs.Meets.{made-room, made-short, made-written}
use borrow.Author.Rules.{rules}
use Rattle.expand.proofs.expand.Goals as goal

pub yield_of-y-requires : goal.yield_of-y-requires
yield_of-y-requires c = search remote-within

pub size-size-requires : goal.size-size-requires
size-size-requires c = (search yield-within, search rules)

pub returns-then-out-size : goal.returns-then-out-size
returns-then-out-size c = search (made-short, expand-list)

pub put-requires : goal.put-requires
put-requires c = (search yield-within, search rules, search made-room)

pub returns : goal.returns
returns c = search (made-written, expand-list)
