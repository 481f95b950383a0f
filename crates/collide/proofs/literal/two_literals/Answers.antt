-- `collide::literal::two_literals` meets its contract: the pieces make the texts that are led.
use Rattle.collide.proofs.Told.{shares_as}
use Rattle.collide.proofs.Pieces.{both-led}
use Rattle.collide.proofs.literal.two_literals.Goals as goal

pub returns : goal.returns
returns c = search (shares_as, both-led)
