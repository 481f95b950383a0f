use mathlib.Core.Path.{refl}
use Rattle.conflicts.proofs.Walks.{list-short}
use Rattle.conflicts.proofs.Wholes.{putting-starts, putting-done, putting-room, putting-more, run-one, run-some, run_small, run_room}
use borrow.Author.Rules.{rules}
use Rattle.conflicts.proofs.index.put_sorted.Goals as goal

pub loop-i-init : goal.loop-i-init
loop-i-init c = (search putting-starts, refl)

pub put_run-to-requires : goal.put_run-to-requires
put_run-to-requires c = (search run-one, search run-some, search list-short, search (run_small, rules), search (run_room, rules), search putting-room)

pub loop-i-preserved : goal.loop-i-preserved
loop-i-preserved c = (search putting-more, search rules)

pub returns : goal.returns
returns c = search putting-done
