-- `answer_agrees` meets its contract: each arm is one answer. Assumes nothing.
use borrow.Author.Rules.{rules}
use Rattle.recorded.proofs.Fields.{field-whole}
use Rattle.recorded.proofs.Answers.{answer-instructs, answer-refused}
use Rattle.recorded.proofs.answer.answer_agrees.Goals as goal

pub accepted_field-requires : goal.accepted_field-requires
accepted_field-requires c = (search rules, search answer-instructs, search rules)

pub returns-in-Ok : goal.returns-in-Ok
returns-in-Ok c = search field-whole

pub returns-in-Err : goal.returns-in-Err
returns-in-Err c = search answer-refused
