use mathlib.Core.Path.{refl}
use Rattle.std.proofs.lemmas.Result.{err_from_is_err_and}
use Rattle.list.proofs.ItemSteps.{items-start, items-less, items_more}
use Rattle.list.proofs.Standing.{standing-none, written_none, name-start, name-size, places-room, standing-more, written-more, standing-end, standing-stop}
use borrow.Author.Rules.{rules}
use Rattle.list.proofs.places.each_place.Goals as goal

pub loop-r-init : goal.loop-r-init
loop-r-init c = (search items-start, search standing-none, refl, search written_none)

pub put_place-requires : goal.put_place-requires
put_place-requires c = (search (places-room, c.in_ok-r.was), search (name-start, c.in_ok-r.was), search (name-size, c.in_ok-r.was))

pub loop-r-smaller : goal.loop-r-smaller
loop-r-smaller c = search (items-less, c.in_ok-r.was)

pub loop-r-preserved : goal.loop-r-preserved
loop-r-preserved c = (search (items_more, c.in_ok-r.was), search (standing-more, c.in_ok-r.was), search rules, search (written-more, c.in_ok-r.was))

pub returns : goal.returns
returns c = search (standing-end, c.in_ok-r.was)

pub returns-in_err-r : goal.returns-in_err-r
returns-in_err-r c = let p = err_from_is_err_and c.from_residual.result c.from_residual.ensures.1 in rw (p.1, p.2) (search (standing-stop, c.in_err-r.was))
