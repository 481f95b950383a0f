-- Absent, a destination is one byte; else its bytes are written right after their length plus 1. Assumes nothing.
use Rattle.row.proofs.Rows.{none-put, none_end, some-first, some-second, some-put, some_end}
use borrow.Author.Rules.{rules}
use Rattle.row.proofs.put_destination.Goals as goal

pub returns-in-Absent : goal.returns-in-Absent
returns-in-Absent c = (search none-put, search none_end)

pub put-i-requires : goal.put-i-requires
put-i-requires c = (search rules, search some-first)

pub put_row_text-requires : goal.put_row_text-requires
put_row_text-requires c = (search rules, search some-second)

pub returns-in_default : goal.returns-in_default
returns-in_default c = (search some-put, search some_end)
