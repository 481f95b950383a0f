-- `number_field` meets its contract: a byte that is there is the number, or it is not. Assumes nothing.
use mathlib.Core.Path.{◌∙◌}
use Rattle.recorded_pairs.proofs.Numbers.{number-none, number-other, number-here}
use Rattle.recorded_pairs.proofs.number_field.Goals as goal

pub returns-in_err-get : goal.returns-in_err-get
returns-in_err-get c = c.from_residual.ensures ∙ search (number-none, c.in_err-get.ensures.lookup)

pub returns-then-b-n : goal.returns-then-b-n
returns-then-b-n c = let b = c.in_ok-get.ensures.lookup.3 in search (number-other, b.0, c.from-b.ensures ∙ b.1 0)

pub returns : goal.returns
returns c = let b = c.in_ok-get.ensures.lookup.3 in search (number-here, b.0, c.from-b.ensures ∙ b.1 0)
