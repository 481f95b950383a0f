-- `compare::begins` meets its contract: a longer text is not begun with, and each way of comparing says the rest.
use Rattle.compare.proofs.Blocks.{begins-longer}
use Rattle.compare.proofs.begins.Goals as goal

pub returns-then-s-n : goal.returns-then-s-n
returns-then-s-n c = search begins-longer
