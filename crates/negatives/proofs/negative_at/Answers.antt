-- `negatives::negative_at` meets its contract: the four numbers tell the negative.
use Rattle.negatives.proofs.Tables.{numbers-tell}
use Rattle.negatives.proofs.negative_at.Goals as goal

pub returns : goal.returns
returns c = search numbers-tell
