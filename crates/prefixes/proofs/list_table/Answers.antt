-- The list is measured before it is written. Assumes nothing.
use Rattle.buffer.proofs.Meets.{made-short, made-written}
use Rattle.prefixes.proofs.list_table.Goals as goal

pub returns-then-out-size : goal.returns-then-out-size
returns-then-out-size c = search made-short

pub returns-else-out-size : goal.returns-else-out-size
returns-else-out-size c = search made-written
