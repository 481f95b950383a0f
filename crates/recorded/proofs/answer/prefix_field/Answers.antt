-- `prefix_field` meets its contract: the place that is answered denotes the prefix, and stands within the spec. Assumes nothing.
use borrow.Author.Rules.{rules}
use Rattle.recorded.proofs.Answers.{prefix-within, found_prefix, no-prefix}
use Rattle.recorded.proofs.answer.prefix_field.Goals as goal

pub side_field-requires : goal.side_field-requires
side_field-requires c = (search rules, search prefix-within)

pub returns-in-Ok : goal.returns-in-Ok
returns-in-Ok c = search found_prefix

pub returns-in-Err : goal.returns-in-Err
returns-in-Err c = search no-prefix
