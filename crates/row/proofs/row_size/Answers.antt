-- The sizes of the pieces make the row's. Assumes nothing.
use Rattle.row.proofs.Rows.{row-size, two-fit, three-fit, four-fit, five-fit, row_small}
use Rattle.row.proofs.row_size.Goals as goal

pub overflow_add-result : goal.overflow_add-result
overflow_add-result c = search two-fit

pub overflow_add-result-2 : goal.overflow_add-result-2
overflow_add-result-2 c = search three-fit

pub overflow_add-result-3 : goal.overflow_add-result-3
overflow_add-result-3 c = search four-fit

pub overflow_add-result-4 : goal.overflow_add-result-4
overflow_add-result-4 c = search five-fit

pub returns : goal.returns
returns c = (search row-size, search row_small)
