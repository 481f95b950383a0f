-- `sides::side_from` meets its contract: each arm is one number.
use Rattle.sides.proofs.Told.{side-one, side-rest}
use Rattle.sides.proofs.side_from.Goals as goal

pub returns-in-1 : goal.returns-in-1
returns-in-1 c = search side-one

pub returns-in_default : goal.returns-in_default
returns-in_default c = search side-rest
