-- `glob::pieces::pieces_begin` meets its contract: p is within the first piece, or begins with it and what follows begins the others.
use Rattle.glob.proofs.Joined.{begins-short, begins-not, begins-on}
use Rattle.glob.proofs.pieces.pieces_begin.Goals as goal

pub returns-then-p-a : goal.returns-then-p-a
returns-then-p-a c = search begins-short

pub returns-then-not-two_begin : goal.returns-then-not-two_begin
returns-then-not-two_begin c = search begins-not

pub returns : goal.returns
returns c = search begins-on
