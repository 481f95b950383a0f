-- The source ends before the last colon, and the destination begins after it. Assumes nothing.
use Rattle.parse.proofs.Splits.{two-sides-is}
use Rattle.parse.proofs.split.two_sides.Goals as goal

pub returns : goal.returns
returns c = search two-sides-is
