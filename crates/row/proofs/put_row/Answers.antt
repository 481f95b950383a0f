-- The numbers, the source and the destination are written one after the other. Assumes nothing.
use Rattle.row.proofs.Rows.{row_first, row-second, row-third, row_put, row-end}
use borrow.Author.Rules.{rules}
use Rattle.row.proofs.put_row.Goals as goal

pub put_numbers-i-requires : goal.put_numbers-i-requires
put_numbers-i-requires c = (search rules, search rules, search row_first)

pub put_source-j-requires : goal.put_source-j-requires
put_source-j-requires c = (search rules, search rules, search row-second)

pub put_destination-requires : goal.put_destination-requires
put_destination-requires c = (search rules, search rules, search row-third)

pub returns : goal.returns
returns c = (search row_put, search row-end)
