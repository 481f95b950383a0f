-- `collide::collide` meets its contract: each arm is one answer of reading the first.
use Rattle.parse.proofs.Answers.{read-within, read-size}
use Rattle.collide.proofs.Told.{meets-as, refused-told}
use Rattle.collide.proofs.Reports.{report-accepted, report-refused}
use Rattle.collide.proofs.collide.Goals as goal

pub with_second-requires : goal.with_second-requires
with_second-requires c = (search read-within, search read-size)

pub returns-in-Ok : goal.returns-in-Ok
returns-in-Ok c = search (meets-as, report-accepted)

pub returns-in-Err : goal.returns-in-Err
returns-in-Err c = search (refused-told, report-refused)
