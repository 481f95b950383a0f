-- The longest of the four.
use Rattle.refused_line.proofs.Lines.{known-max}
use Rattle.refused_line.proofs.byte.known.Goals as goal

pub returns : goal.returns
returns c = search known-max
