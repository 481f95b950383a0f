-- `negatives::put_numbers` meets its contract: the four numbers stand there, and those before them stay.
use mathlib.Core.Path.{refl}
use Rattle.negatives.proofs.Tables.{four-stored, stored}
use Rattle.negatives.proofs.put_numbers.Goals as goal

pub returns : goal.returns
returns c = (refl, search four-stored, search stored)
