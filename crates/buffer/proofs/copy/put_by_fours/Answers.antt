-- `buffer::copy::put_by_fours` meets its contract: the last four bytes are written over the first four.
use Rattle.buffer.proofs.Copies.{four-over}
use borrow.Author.Rules.{rules}
use Rattle.buffer.proofs.copy.put_by_fours.Goals as goal

pub returns : goal.returns
returns c = (search four-over, search rules)
