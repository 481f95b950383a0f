-- `sides::side_at` meets its contract: a part of a spec list begins within it.
use Rattle.sides.proofs.Told.{at_small}
use Rattle.sides.proofs.side_at.Goals as goal

pub narrow-requires : goal.narrow-requires
narrow-requires c = search at_small
