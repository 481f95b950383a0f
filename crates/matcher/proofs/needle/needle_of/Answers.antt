-- Each arm is one kind of side; only a negative takes `HEAD` as a full name. Assumes nothing.
use Rattle.matcher.proofs.Needles.{head-negative, head-partial}
use Rattle.matcher.proofs.needle.needle_of.Goals as goal

pub returns-in-Head : goal.returns-in-Head
returns-in-Head c = search head-negative

pub returns-in-Head-2 : goal.returns-in-Head-2
returns-in-Head-2 c = search head-partial
