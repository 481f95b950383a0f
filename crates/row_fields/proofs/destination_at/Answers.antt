-- `row_fields::destination_at` meets its contract: a row that was read tells its destination.
use Rattle.row_fields.proofs.Fields.{there, absent_or_head}
use Rattle.row_fields.proofs.destination_at.Goals as goal

pub returns-in-Part : goal.returns-in-Part
returns-in-Part c = search there

pub returns-in-Absent : goal.returns-in-Absent
returns-in-Absent c = search absent_or_head
