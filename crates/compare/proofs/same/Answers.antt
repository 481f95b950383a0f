-- `compare::same` meets its contract: texts of two lengths never are the same, and of one length the one begins with the other.
use Rattle.compare.proofs.Sames.{same-by-begins, same-never}
use Rattle.compare.proofs.same.Goals as goal

pub returns-then-s-p : goal.returns-then-s-p
returns-then-s-p c = search same-never

pub returns : goal.returns
returns c = search same-by-begins
