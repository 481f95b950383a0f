-- Each branch is one kind of name without a prefix. Assumes nothing.
use Rattle.expand.proofs.Yields.{yield-deeper, yield-itself, yield-object, yield-six}
use Rattle.expand.proofs.name_yield.Goals as goal

pub returns-then-has_byte : goal.returns-then-has_byte
returns-then-has_byte c = search yield-deeper

pub returns-else-has_byte : goal.returns-else-has_byte
returns-else-has_byte c = search yield-itself

pub returns-then-object_id : goal.returns-then-object_id
returns-then-object_id c = search yield-object

pub returns-else-object_id : goal.returns-else-object_id
returns-else-object_id c = search yield-six
