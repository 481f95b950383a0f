-- The line feed stands right after it. Assumes nothing.
use Rattle.buffer.proofs.Pairs.{pair_put, pair_end}
use Rattle.refused_line.proofs.put_end.Goals as goal

pub returns : goal.returns
returns c = (search pair_put, search pair_end)
