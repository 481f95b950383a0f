-- `collide::answer::destination` meets its contract: the pieces are measured, and then written one after the other.
use Rattle.collide.proofs.Told.{short-told, written-told}
use Rattle.collide.proofs.answer.destination.Goals as goal

pub returns-then-out-size : goal.returns-then-out-size
returns-then-out-size c = search short-told

pub returns-else-out-size : goal.returns-else-out-size
returns-else-out-size c = search written-told
