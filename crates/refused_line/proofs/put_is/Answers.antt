-- The byte is written right after the verb.
use Rattle.buffer.proofs.Pairs.{pair_put, pair_end}
use Rattle.refused_line.proofs.put_is.Goals as goal

pub returns : goal.returns
returns c = (search pair_put, search pair_end)
