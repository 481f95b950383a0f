-- `present_field` meets its contract: 1, and then the text. Assumes nothing.
use mathlib.Core.Path.{◌∙◌}
use Rattle.recorded.proofs.Fields.{field-within}
use Rattle.recorded.proofs.Answers.{found-present, found-no-mark}
use Rattle.recorded.proofs.answer.present_field.Goals as goal

pub returns-in_err-next : goal.returns-in_err-next
returns-in_err-next c = c.from_residual.ensures ∙ search (found-no-mark, c.in_err-next.was)

pub text_field-requires : goal.text_field-requires
text_field-requires c = search (field-within, c.in_ok-next.was)

pub returns : goal.returns
returns c = search (found-present, c.in_ok-next.was)
