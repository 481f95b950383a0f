-- `row_list::read_rows` meets its contract: 12, then the rows.
use Rattle.row_list.proofs.RowSteps.{rows-too-long, rows_are}
use Rattle.row_list.proofs.read_rows.Goals as goal

pub returns-then-list-gt-ROW_LIST_BYTES : goal.returns-then-list-gt-ROW_LIST_BYTES
returns-then-list-gt-ROW_LIST_BYTES c = rw c.of_list.ensures (search rows-too-long)

pub returns : goal.returns
returns c = search rows_are
