-- `view::next_record` meets its contract: the cursor hands back the record, or there is none.
use native.Mathlib.Omega.{arith}
use Rattle.view.proofs.Walks.{record-found, record-within, record-end, record-none}
use Rattle.view.proofs.next_record.Goals as goal

pub returns-in-Ok-Some : goal.returns-in-Ok-Some
returns-in-Ok-Some c = (search record-found, search record-within)

pub returns-in-Ok-None : goal.returns-in-Ok-None
returns-in-Ok-None c = (search record-end, omega arith)

pub returns-in-Ok-None-2 : goal.returns-in-Ok-None-2
returns-in-Ok-None-2 c = (search record-none, omega arith)
