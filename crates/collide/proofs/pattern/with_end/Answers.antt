-- `collide::pattern::with_end` meets its contract: each branch is one case of the longer end.
use Rattle.collide.proofs.Told.{shares_as, none_told}
use Rattle.collide.proofs.Shared.{end-second, end-first, end-neither}
use Rattle.collide.proofs.pattern.with_end.Goals as goal

pub returns-then-ends : goal.returns-then-ends
returns-then-ends c = search (shares_as, end-second)

pub returns-then-ends-2 : goal.returns-then-ends-2
returns-then-ends-2 c = search (shares_as, end-first)

pub returns-else-ends-2 : goal.returns-else-ends-2
returns-else-ends-2 c = search (none_told, end-neither)
