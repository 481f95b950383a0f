-- A number of a machine has at most so many digits. Assumes nothing.
use Rattle.refused_line.proofs.Messages.{numeral-room, numeral-put, numeral-end}
use Rattle.refused_line.proofs.put_number.Goals as goal

pub put_digits-requires : goal.put_digits-requires
put_digits-requires c = search numeral-room

pub returns : goal.returns
returns c = (search numeral-put, search numeral-end)
