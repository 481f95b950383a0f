-- `glob::pieces::two_end` meets its contract: q is within the last piece, or ends with it and what is before ends the others.
use Rattle.glob.proofs.Joined.{ends-short, ends-not, ends_on}
use Rattle.glob.proofs.pieces.two_end.Goals as goal

pub returns-then-q-b : goal.returns-then-q-b
returns-then-q-b c = search ends-short

pub returns-then-not-ends : goal.returns-then-not-ends
returns-then-not-ends c = search ends-not

pub returns : goal.returns
returns c = search ends_on
