use Rattle.std.proofs.lemmas.Result.{err_from_is_err_and}
use Rattle.row_list.proofs.RowSteps.{rows_more, rows_all, rows-stop}
use Rattle.row_list.proofs.each_row.Goals as goal

pub loop-r-preserved : goal.loop-r-preserved
loop-r-preserved c = search (rows_more, c.in_ok-r.was)

pub returns : goal.returns
returns c = search (rows_all, c.in_ok-r.was)

pub returns-in_err-r : goal.returns-in_err-r
returns-in_err-r c = let p = err_from_is_err_and c.from_residual.result c.from_residual.ensures.1 in rw (p.1, p.2) (search (rows-stop, c.in_err-r.was))
