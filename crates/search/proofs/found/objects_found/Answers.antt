use Rattle.search.proofs.Finding.{row-begin, row_next, row-measured, row-noted, objects-fit, objects-small, object-measured, object-noted, object-hit, matcher-room, matcher-ready, spec-few}
use borrow.Author.Rules.{rules}
use Rattle.search.proofs.found.objects_found.Goals as goal

pub loop-i-init : goal.loop-i-init
loop-i-init c = search row-begin

pub matcher_at-m-requires : goal.matcher_at-m-requires
matcher_at-m-requires c = search matcher-room

pub object_size-one-requires : goal.object_size-one-requires
object_size-one-requires c = (search matcher-ready, search spec-few)

pub note-noted-requires : goal.note-noted-requires
note-noted-requires c = (search rules, search object-hit)

pub overflow_add-size : goal.overflow_add-size
overflow_add-size c = search (objects-fit, rules)

pub loop-i-preserved : goal.loop-i-preserved
loop-i-preserved c = search (row_next, object-measured, object-noted)

pub returns : goal.returns
returns c = (search row-measured, search (objects-small, rules), search row-noted)
