-- `kept_rows::is_kept` meets its contract: a destination that is there is asked.
use Rattle.kept_rows.proofs.Full.{none-kept}
use Rattle.kept_rows.proofs.is_kept.Goals as goal

pub returns-in-Absent : goal.returns-in-Absent
returns-in-Absent c = search none-kept
