-- `sides::side_len` meets its contract: a part of a spec list is no longer than it.
use Rattle.sides.proofs.Told.{len-small}
use Rattle.sides.proofs.side_len.Goals as goal

pub narrow-requires : goal.narrow-requires
narrow-requires c = search len-small
