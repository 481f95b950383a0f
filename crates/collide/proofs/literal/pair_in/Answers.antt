-- `collide::literal::pair_in` meets its contract: they share the text that the pattern matches, or nothing.
use Rattle.collide.proofs.Told.{shares_as, none_told}
use Rattle.collide.proofs.Pieces.{in_some, in-none}
use Rattle.collide.proofs.literal.pair_in.Goals as goal

pub returns-then-pieces_glob : goal.returns-then-pieces_glob
returns-then-pieces_glob c = search (shares_as, in_some)

pub returns-else-pieces_glob : goal.returns-else-pieces_glob
returns-else-pieces_glob c = search (none_told, in-none)
