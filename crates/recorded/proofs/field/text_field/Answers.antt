-- `text_field` meets its contract: two bytes tell another length, or this one and the bytes after them decide. Assumes nothing.
use mathlib.Core.Path.{◌∙◌}
use Rattle.recorded.proofs.Fields.{text-short, text-other, text-here}
use Rattle.recorded.proofs.field.text_field.Goals as goal

pub returns-in_err-n : goal.returns-in_err-n
returns-in_err-n c = c.from_residual.ensures ∙ search (text-short, c.in_err-n.ensures)

pub returns-then-want-n : goal.returns-then-want-n
returns-then-want-n c = search (text-other, c.in_ok-n.ensures)

pub returns : goal.returns
returns c = search (text-here, c.in_ok-n.ensures)
