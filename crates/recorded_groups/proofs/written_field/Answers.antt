-- `written_field` meets its contract: nothing was refused, and the front of the buffer stands there. Assumes nothing.
use Rattle.recorded_groups.proofs.Fields.{written-found}
use Rattle.recorded_groups.proofs.written_field.Goals as goal

pub returns : goal.returns
returns c = search written-found
