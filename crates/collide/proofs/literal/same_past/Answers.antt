-- `collide::literal::same_past` meets its contract: what is past the first piece decides, and then the first piece.
use Rattle.collide.proofs.Pieces.{past-not, past-on}
use Rattle.collide.proofs.literal.same_past.Goals as goal

pub returns-then-pieces_same : goal.returns-then-pieces_same
returns-then-pieces_same c = search past-on

pub returns-else-pieces_same : goal.returns-else-pieces_same
returns-else-pieces_same c = search past-not
