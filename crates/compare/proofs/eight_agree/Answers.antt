-- `compare::eight_agree` meets its contract: eight bytes are the same where their numbers are.
use Rattle.compare.proofs.Blocks.{block-decides}
use Rattle.compare.proofs.eight_agree.Goals as goal

pub returns : goal.returns
returns c = search block-decides
