use Rattle.std.proofs.lemmas.Result.{err_from_is_err_and}
use Rattle.list.proofs.ItemSteps.{items-start, items-less, items_more, items-all, items-stop}
use Rattle.list.proofs.items.each_item.Goals as goal

pub loop-r-init : goal.loop-r-init
loop-r-init c = search items-start

pub loop-r-smaller : goal.loop-r-smaller
loop-r-smaller c = search (items-less, c.in_ok-r.was)

pub loop-r-preserved : goal.loop-r-preserved
loop-r-preserved c = search (items_more, c.in_ok-r.was)

pub returns : goal.returns
returns c = search (items-all, c.in_ok-r.was)

pub returns-in_err-r : goal.returns-in_err-r
returns-in_err-r c = let p = err_from_is_err_and c.from_residual.result c.from_residual.ensures.1 in rw (p.1, p.2) (search (items-stop, c.in_err-r.was))
