-- The source takes all that follows the sign. Assumes nothing.
use Rattle.parse.proofs.Splits.{one-side-is}
use Rattle.parse.proofs.split.one_side.Goals as goal

pub returns : goal.returns
returns c = search one-side-is
