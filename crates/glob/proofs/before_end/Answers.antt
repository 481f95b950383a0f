-- `glob::before_end` meets its contract: the end stands last in what is left, and the capture is what stands before it.
use Rattle.glob.proofs.Ends.{end-off, end-at, end_none, end-within, end-part, end-part-within}
use Rattle.glob.proofs.before_end.Goals as goal

pub returns-then-not-ends : goal.returns-then-not-ends
returns-then-not-ends c = (search end-off, search end_none, tt)

pub overflow_sub-result : goal.overflow_sub-result
overflow_sub-result c = search end-within

pub returns : goal.returns
returns c = (search end-at, search end-part, search end-part-within)
