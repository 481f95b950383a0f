-- `name::after_dot` meets its contract: each arm is one beginning of the text.
use Rattle.name.proofs.After.{dot-none, dot-dot, dot-lock}
use Rattle.name.proofs.after_dot.Goals as goal

pub returns-in-empty : goal.returns-in-empty
returns-in-empty c = search dot-none

pub returns-in-empty-2 : goal.returns-in-empty-2
returns-in-empty-2 c = search dot-dot

pub returns-in_default : goal.returns-in_default
returns-in_default c = search dot-lock
