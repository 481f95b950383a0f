-- `collide::literal::two_pairs` meets its contract: they share the text that both are, or nothing.
use Rattle.collide.proofs.Told.{none_told}
use Rattle.collide.proofs.Pieces.{same_none}
use Rattle.collide.proofs.literal.two_pairs.Goals as goal

pub returns-else-pairs_same : goal.returns-else-pairs_same
returns-else-pairs_same c = search (none_told, same_none)
