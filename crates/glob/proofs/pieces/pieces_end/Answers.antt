-- `glob::pieces::pieces_end` meets its contract: q is within the last piece, or ends with it and what is before ends the others.
use Rattle.glob.proofs.Joined.{ends-short, ends-not, ends_on}
use Rattle.glob.proofs.pieces.pieces_end.Goals as goal

pub returns-then-q-c : goal.returns-then-q-c
returns-then-q-c c = search ends-short

pub returns-then-not-two_end : goal.returns-then-not-two_end
returns-then-not-two_end c = search ends-not

pub returns : goal.returns
returns c = search ends_on
