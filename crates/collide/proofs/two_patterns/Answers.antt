-- `collide::two_patterns` meets its contract: the parts that are lent are the starts and the ends.
use Rattle.collide.proofs.Told.{shares_as}
use Rattle.collide.proofs.Shared.{patterns-as}
use Rattle.collide.proofs.two_patterns.Goals as goal

pub returns : goal.returns
returns c = search (shares_as, patterns-as)
