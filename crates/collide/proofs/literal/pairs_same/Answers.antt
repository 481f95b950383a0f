-- `collide::literal::pairs_same` meets its contract: the pair with the shorter first piece is compared with the other.
use Rattle.collide.proofs.Pieces.{pairs-swap}
use Rattle.collide.proofs.literal.pairs_same.Goals as goal

pub returns-else-a-c : goal.returns-else-a-c
returns-else-a-c c = search pairs-swap
