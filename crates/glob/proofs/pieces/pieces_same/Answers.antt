-- `glob::pieces::pieces_same` meets its contract: a text of their length is the three pieces where each stands in it.
use Rattle.glob.proofs.Joined.{same_not, same_second, same_first, same-third}
use Rattle.glob.proofs.pieces.pieces_same.Goals as goal

pub returns-then-not-is_sum : goal.returns-then-not-is_sum
returns-then-not-is_sum c = search same_not

pub returns-then-not-begins : goal.returns-then-not-begins
returns-then-not-begins c = search same_second

pub returns-then-not-begins-2 : goal.returns-then-not-begins-2
returns-then-not-begins-2 c = search same_first

pub returns : goal.returns
returns c = search same-third
