-- `matcher_table::put_five` meets its contract: the five numbers stand one after the other.
use Rattle.matcher_table.proofs.Tables.{five-stored}
use Rattle.matcher_table.proofs.put_five.Goals as goal

pub returns : goal.returns
returns c = search five-stored
