-- Each part stands right after the one before it. Assumes nothing.
use Rattle.buffer.proofs.Threes.{three-put, three-end}
use Rattle.row_text.proofs.put_filled.Goals as goal

pub returns : goal.returns
returns c = (search three-put, search three-end)
