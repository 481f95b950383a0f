-- `list::cursor::record_at` meets its contract: the bytes are there, or they are too few.
use Rattle.list.proofs.Steps.{record-short, record-there}
use Rattle.list.proofs.cursor.record_at.Goals as goal

pub returns-then-list-start : goal.returns-then-list-start
returns-then-list-start c = search record-short

pub returns : goal.returns
returns c = search record-there
