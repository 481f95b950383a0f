-- Absent, a destination is one byte; else its length plus 1 and its bytes. Assumes nothing.
use Rattle.row.proofs.Rows.{text-fits, destination-small, none-size, some_size}
use borrow.Author.Rules.{rules}
use Rattle.row.proofs.destination_size.Goals as goal

pub returns-in-Absent : goal.returns-in-Absent
returns-in-Absent c = (search none-size, search rules)

pub overflow_add-result : goal.overflow_add-result
overflow_add-result c = search text-fits

pub returns-in_default : goal.returns-in_default
returns-in_default c = (search some_size, search destination-small)
