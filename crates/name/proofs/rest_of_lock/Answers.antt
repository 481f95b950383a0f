-- `name::rest_of_lock` meets its contract: its two questions, one after the other.
use borrow.Author.Rules.{rules}
use Rattle.name.specs.Rules.{rest_of_lock}
use Rattle.name.proofs.rest_of_lock.Goals as goal

pub returns-then-same : goal.returns-then-same
unfolding rest_of_lock
returns-then-same c = rw (← c.same.ensures, c.if-same.true)

pub returns-else-same : goal.returns-else-same
unfolding rest_of_lock
returns-else-same c = search rules
