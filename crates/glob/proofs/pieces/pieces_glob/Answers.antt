-- `glob::pieces::pieces_glob` meets its contract: the length, the start and the end decide.
use Rattle.glob.proofs.Joined.{star-short, star-start, star-end}
use Rattle.glob.proofs.pieces.pieces_glob.Goals as goal

pub returns-then-not-at_most_sum : goal.returns-then-not-at_most_sum
returns-then-not-at_most_sum c = search star-short

pub returns-then-not-pieces_begin : goal.returns-then-not-pieces_begin
returns-then-not-pieces_begin c = search star-start

pub returns : goal.returns
returns c = search star-end
