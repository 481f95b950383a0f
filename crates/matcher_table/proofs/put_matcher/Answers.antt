-- `matcher_table::put_matcher` meets its contract: both fives tell the matcher, and the others stay.
use Rattle.matcher_table.proofs.Tables.{stored}
use Rattle.matcher_table.proofs.put_matcher.Goals as goal

pub returns : goal.returns
returns c = search stored
