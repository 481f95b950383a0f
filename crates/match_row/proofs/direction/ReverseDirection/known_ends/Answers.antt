-- The ends are known by the size of the name.
use Rattle.match_row.proofs.Standing.{known-back}
use Rattle.match_row.proofs.direction.ReverseDirection.known_ends.Goals as goal

pub returns : goal.returns
returns c = search known-back
