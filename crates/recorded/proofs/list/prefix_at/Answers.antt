-- `prefix_at` meets its contract: the text that was found in the record is that part of the list. Assumes nothing.
use Rattle.recorded.proofs.Lists.{passed-text, passed-other}
use Rattle.recorded.proofs.list.prefix_at.Goals as goal

pub returns-in_err-next : goal.returns-in_err-next
returns-in_err-next c = rw c.from_residual.ensures (search (passed-other, c.in_err-next.was))

pub returns : goal.returns
returns c = search (passed-text, c.in_ok-next.was)
