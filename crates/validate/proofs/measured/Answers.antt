-- The first buffer is asked before that for fixes, and both before one is written. Assumes nothing.
use Rattle.validate.proofs.Entry.{kept-short, fixes-short}
use Rattle.validate.proofs.measured.Goals as goal

pub returns-then-out-n : goal.returns-then-out-n
returns-then-out-n c = search kept-short

pub returns-then-fixes-n : goal.returns-then-fixes-n
returns-then-fixes-n c = search fixes-short
