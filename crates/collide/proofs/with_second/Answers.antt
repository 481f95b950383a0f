-- `collide::with_second` meets its contract: each arm is one answer of reading the second.
use Rattle.parse.proofs.Answers.{read-within, read-size}
use Rattle.collide.proofs.Told.{meets-as, refused-told}
use Rattle.collide.proofs.Reports.{after-accepted, after-refused}
use borrow.Author.Rules.{rules}
use Rattle.collide.proofs.with_second.Goals as goal

pub two_specs-requires : goal.two_specs-requires
two_specs-requires c = (search rules, search rules, search read-within, search read-size)

pub returns-in-Ok : goal.returns-in-Ok
returns-in-Ok c = search (meets-as, after-accepted)

pub returns-in-Err : goal.returns-in-Err
returns-in-Err c = search (refused-told, after-refused)
