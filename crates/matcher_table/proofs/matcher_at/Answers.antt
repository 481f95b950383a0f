-- `matcher_table::matcher_at` meets its contract: the ten numbers tell the matcher.
use Rattle.matcher_table.proofs.Tables.{numbers-tell}
use Rattle.matcher_table.proofs.matcher_at.Goals as goal

pub returns : goal.returns
returns c = search numbers-tell
