use mathlib.Core.Path.{refl}
use Rattle.conflicts.proofs.Walks.{list-short}
use Rattle.conflicts.proofs.Wholes.{walking-starts, walking-more, run-one, run-some, run_small, run_room}
use borrow.Author.Rules.{rules}
use Rattle.conflicts.proofs.index.sorted_size.Goals as goal

pub loop-i-init : goal.loop-i-init
loop-i-init c = (search walking-starts, refl)

pub run_size-size-requires : goal.run_size-size-requires
run_size-size-requires c = (search run-one, search run-some, search list-short, search (run_small, rules), search (run_room, rules))

pub loop-i-preserved : goal.loop-i-preserved
loop-i-preserved c = (search walking-more, search rules)
