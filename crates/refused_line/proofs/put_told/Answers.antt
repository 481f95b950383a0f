-- Nothing, or three pieces, one after the other.
use Rattle.refused_line.proofs.Messages.{told-none, told-put, told-end}
use Rattle.refused_line.proofs.put_told.Goals as goal

pub returns-in-None : goal.returns-in-None
returns-in-None c = told-none _ _ _ _ c.in-None.is

pub returns-in-Some : goal.returns-in-Some
returns-in-Some c = (search told-put, search told-end)
