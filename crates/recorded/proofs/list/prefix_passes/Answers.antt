-- `prefix_passes` meets its contract: a number and as many bytes are a record of the list. Assumes nothing.
use borrow.Author.Rules.{rules}
use Rattle.recorded.proofs.Lists.{number-within, passed-record, passed-malformed}
use Rattle.recorded.proofs.list.prefix_passes.Goals as goal

pub returns-in_err-length : goal.returns-in_err-length
returns-in_err-length c = rw c.from_residual.ensures (search (passed-malformed, c.in_err-length.was))

pub prefix_at-requires : goal.prefix_at-requires
prefix_at-requires c = (search rules, search (number-within, c.in_ok-length.was))

pub returns : goal.returns
returns c = search (passed-record, c.in_ok-length.was)
