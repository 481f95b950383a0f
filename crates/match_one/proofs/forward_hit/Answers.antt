-- `match_one::forward_hit` meets its contract: the destination takes what the source catches, or no row comes of it.
use Rattle.match_one.proofs.Onward.{forward-both, hit-missed, hit-taken, hit-left}
use Rattle.match_one.proofs.forward_hit.Goals as goal

pub returns-in_err-c : goal.returns-in_err-c
returns-in_err-c c = forward-both _ _ _ _ (search (hit-missed, c.in_err-c.was))

pub returns-then-takes : goal.returns-then-takes
returns-then-takes c = forward-both _ _ _ _ (search (hit-taken, c.in_ok-c.was))

pub returns-else-takes : goal.returns-else-takes
returns-else-takes c = forward-both _ _ _ _ (search (hit-left, c.in_ok-c.was))
