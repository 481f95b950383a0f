-- No bytes are nothing to write; else the part that is lent is the bytes from the place on. Assumes nothing.
use Rattle.row_text.proofs.Writes.{no-part-put, no-part-end}
use Rattle.row_text.proofs.put_part.Goals as goal

pub returns-then-n-eq0 : goal.returns-then-n-eq0
returns-then-n-eq0 c = (search no-part-put, search no-part-end)
