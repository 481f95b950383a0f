-- `list::Cursor::next` meets its contract: the end, a record after its number, or no number.
use Rattle.list.proofs.Steps.{step_past, step-number, step-starts, step-none}
use Rattle.list.proofs.cursor.Cursor.next.Goals as goal

pub returns-then-list-self : goal.returns-then-list-self
returns-then-list-self c = search step_past

pub record_at-requires : goal.record_at-requires
record_at-requires c = search step-starts

pub returns : goal.returns
returns c = search step-number

pub returns-in_default : goal.returns-in_default
returns-in_default c = search step-none
