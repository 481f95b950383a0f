-- `filter::passes` meets its contract: the questions are asked one after the other.
use Rattle.filter.proofs.Looks.{too_short, too_long, word-decides, frame-decides, size-decides}
use Rattle.filter.proofs.passes.Goals as goal

pub returns-then-n-f : goal.returns-then-n-f
returns-then-n-f c = search too_short

pub returns-then-f-n : goal.returns-then-f-n
returns-then-f-n c = search too_long

pub returns-then-f : goal.returns-then-f
returns-then-f c = search word-decides

pub returns-then-f-2 : goal.returns-then-f-2
returns-then-f-2 c = search frame-decides

pub returns : goal.returns
returns c = search size-decides
