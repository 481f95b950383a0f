-- `collide::target_in` meets its contract: a negative spec writes nowhere, another where its destination is.
use Rattle.collide.proofs.Reports.{negative-writes, target_writes}
use Rattle.collide.proofs.target_in.Goals as goal

pub returns-then-is_negative : goal.returns-then-is_negative
returns-then-is_negative c = search negative-writes

pub returns-else-is_negative : goal.returns-else-is_negative
returns-else-is_negative c = search target_writes
