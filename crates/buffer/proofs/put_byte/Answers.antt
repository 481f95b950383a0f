-- `buffer::put_byte` meets its contract: one store is the splice of one byte.
use borrow.Author.Rules.{rules}
use Rattle.buffer.proofs.Splices.{splice-byte}
use Rattle.buffer.proofs.put_byte.Goals as goal

pub returns : goal.returns
returns c = (search splice-byte, search rules)
