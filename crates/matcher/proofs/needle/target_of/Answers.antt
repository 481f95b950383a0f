-- Each arm is one kind of side. Assumes nothing.
use Rattle.matcher.proofs.Needles.{target-head}
use Rattle.matcher.proofs.needle.target_of.Goals as goal

pub returns-in-Head : goal.returns-in-Head
returns-in-Head c = search target-head
