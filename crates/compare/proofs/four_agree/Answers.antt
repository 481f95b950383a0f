-- `compare::four_agree` meets its contract: four bytes are the same where their numbers are.
use Rattle.compare.proofs.Blocks.{block-decides}
use Rattle.compare.proofs.four_agree.Goals as goal

pub returns : goal.returns
returns c = search block-decides
