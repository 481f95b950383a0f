-- `collide::two_specs` meets its contract: what the targets share is the collision.
use Rattle.collide.proofs.Told.{shares_as}
use Rattle.collide.proofs.Reports.{collision-is}
use Rattle.collide.proofs.two_specs.Goals as goal

pub returns : goal.returns
returns c = search (shares_as, collision-is)
