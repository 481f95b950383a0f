-- `text_end` meets its contract: two bytes of length, and that many bytes, are the sized text. Assumes nothing.
use Rattle.recorded.proofs.Texts.{text-none, text-cut, text-stands}
use Rattle.recorded.proofs.field.text_end.Goals as goal

pub returns-in_err-n : goal.returns-in_err-n
returns-in_err-n c = rw c.from_residual.ensures (text-none _ _ c.in_err-n.ensures)

pub returns-then-told-at : goal.returns-then-told-at
returns-then-told-at c = search (text-cut, c.in_ok-n.ensures)

pub returns : goal.returns
returns c = search (text-stands, c.in_ok-n.ensures)
