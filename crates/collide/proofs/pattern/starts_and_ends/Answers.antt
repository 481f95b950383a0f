-- `collide::pattern::starts_and_ends` meets its contract: each branch is one case of the longer start.
use Rattle.collide.proofs.Told.{shares_as, none_told}
use Rattle.collide.proofs.Shared.{start-second, start_first, start-neither}
use Rattle.collide.proofs.pattern.starts_and_ends.Goals as goal

pub returns-then-begins : goal.returns-then-begins
returns-then-begins c = search (shares_as, start-second)

pub returns-then-begins-2 : goal.returns-then-begins-2
returns-then-begins-2 c = search (shares_as, start_first)

pub returns-else-begins-2 : goal.returns-else-begins-2
returns-else-begins-2 c = search (none_told, start-neither)
