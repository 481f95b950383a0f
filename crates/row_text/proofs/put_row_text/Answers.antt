-- Each arm is one kind of text. Assumes nothing.
use Rattle.row_text.proofs.Writes.{none-put, none_end, nothing-text}
use Rattle.row_text.proofs.put_row_text.Goals as goal

pub returns-in-Absent : goal.returns-in-Absent
returns-in-Absent c = (search (none-put, nothing-text), search (none_end, nothing-text))
