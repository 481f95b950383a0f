use Rattle.std.proofs.lemmas.Result.{err_from_is_err_and}
use Rattle.spec_list.proofs.Groups.{filling-starts, filling-room, filling-small, filling-less, filling-more, filling-whole, filling-stop}
use Rattle.spec_list.proofs.each_spec.Goals as goal

pub loop-r-init : goal.loop-r-init
loop-r-init c = search filling-starts

pub record_of-requires : goal.record_of-requires
record_of-requires c = search (filling-small, c.in_ok-r.was)

pub bounds-specs-count : goal.bounds-specs-count
bounds-specs-count c = search (filling-room, c.in_ok-r.was)

pub loop-r-smaller : goal.loop-r-smaller
loop-r-smaller c = search (filling-less, c.in_ok-r.was)

pub loop-r-preserved : goal.loop-r-preserved
loop-r-preserved c = search (filling-more, c.in_ok-r.was)

pub returns : goal.returns
returns c = search (filling-whole, c.in_ok-r.was)

pub returns-in_err-r : goal.returns-in_err-r
returns-in_err-r c = let p = err_from_is_err_and c.from_residual.result c.from_residual.ensures.1 in rw (p.1, p.2) (search (filling-stop, c.in_err-r.was))
