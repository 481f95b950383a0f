use Rattle.search.proofs.Finding.{names-begin, next-less, names-next, names-fit, names-small, names-measured, names-noted, places-room, places-within, place-first, place-second, place_inside, place-few, place_short}
use borrow.Author.Rules.{rules}
use Rattle.search.proofs.found.names_found.Goals as goal

pub next_passing-j-requires : goal.next_passing-j-requires
next_passing-j-requires g c = (search rules, search rules, search places-room, search places-within)

pub loop-j-init : goal.loop-j-init
loop-j-init g c = search names-begin

pub bounds-places-j : goal.bounds-places-j
bounds-places-j g c = search place-first

pub bounds-places-j-in-loop-j : goal.bounds-places-j-in-loop-j
bounds-places-j-in-loop-j g c = search place-second

pub part-requires : goal.part-requires
part-requires g c = (search place_inside, search rules)

pub name_found-x-requires : goal.name_found-x-requires
name_found-x-requires g c = (search rules, search rules, search rules, search place-few, search place_short, search rules)

pub overflow_add-size : goal.overflow_add-size
overflow_add-size g c = search names-fit

pub next_passing-j-requires-in-loop-j : goal.next_passing-j-requires-in-loop-j
next_passing-j-requires-in-loop-j g c = (search rules, search rules, search places-room, search places-within)

pub loop-j-smaller : goal.loop-j-smaller
loop-j-smaller g c = search next-less

pub loop-j-preserved : goal.loop-j-preserved
loop-j-preserved g c = search names-next

pub returns : goal.returns
returns g c = (search names-measured, search names-small, search names-noted)
