-- `numbers_field` meets its contract: three numbers, one after another. Assumes nothing.
use mathlib.Core.Path.{◌∙◌}
use Rattle.recorded.proofs.Fields.{field-within}
use Rattle.recorded_pairs.proofs.Numbers.{first-other, second-other, third-decides}
use Rattle.recorded_pairs.proofs.numbers_field.Goals as goal

pub returns-in_err-second : goal.returns-in_err-second
returns-in_err-second c = c.from_residual.ensures ∙ search (first-other, c.in_err-second.was)

pub number_field-requires-2 : goal.number_field-requires-2
number_field-requires-2 c = search (field-within, c.in_ok-second.was)

pub returns-in_err-third : goal.returns-in_err-third
returns-in_err-third c = c.from_residual-in_err-third.ensures ∙ search (second-other, c.in_ok-second.was, c.in_err-third.was)

pub number_field-requires-3 : goal.number_field-requires-3
number_field-requires-3 c = search (field-within, c.in_ok-second.was, c.in_ok-third.was)

pub returns : goal.returns
returns c = search (third-decides, c.in_ok-second.was, c.in_ok-third.was)
