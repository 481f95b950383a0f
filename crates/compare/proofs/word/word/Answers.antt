-- `compare::word::word` meets its contract: eight bytes are four and four.
use Rattle.compare.proofs.Words.{word-is}
use Rattle.compare.proofs.word.word.Goals as goal

pub returns : goal.returns
returns c = search word-is
