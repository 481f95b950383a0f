use Rattle.std.proofs.lemmas.Result.{err_from_is_err_and}
use Rattle.spec_list.proofs.SpecReadings.{specs-start, specs-less, specs-more, specs-all, specs-stop}
use Rattle.spec_list.proofs.each_checked.Goals as goal

pub loop-r-init : goal.loop-r-init
loop-r-init c = search specs-start

pub loop-r-smaller : goal.loop-r-smaller
loop-r-smaller c = search (specs-less, c.in_ok-r.was)

pub loop-r-preserved : goal.loop-r-preserved
loop-r-preserved c = search (specs-more, c.in_ok-r.was)

pub returns : goal.returns
returns c = search (specs-all, c.in_ok-r.was)

pub returns-in_err-r : goal.returns-in_err-r
returns-in_err-r c = let p = err_from_is_err_and c.from_residual.result c.from_residual.ensures.1 in rw (p.1, p.2) (search (specs-stop, c.in_err-r.was))
