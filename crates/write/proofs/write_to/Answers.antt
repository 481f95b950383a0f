-- The pieces of the instruction make the canonical text, which is measured before it is written. Assumes nothing.
use Rattle.buffer.proofs.Meets.{made-room, made-short, made-written}
use Rattle.write.proofs.Texts.{pieces-within, canonical-is}
use borrow.Author.Rules.{rules}
use Rattle.write.proofs.write_to.Goals as goal

pub size-size-requires : goal.size-size-requires
size-size-requires c = (search pieces-within, search rules)

pub returns-then-out-size : goal.returns-then-out-size
returns-then-out-size c = search (made-short, canonical-is)

pub put-requires : goal.put-requires
put-requires c = (search pieces-within, search made-room)

pub returns : goal.returns
returns c = search (made-written, canonical-is)
