-- `negatives::besides` meets its contract: both are patterns, or neither.
use Rattle.negatives.proofs.Arms.{besides-alike, besides-other}
use Rattle.negatives.proofs.besides.Goals as goal

pub returns-then-is_glob : goal.returns-then-is_glob
returns-then-is_glob c = besides-alike _ _ _ _ c.is_glob.ensures c.is_glob-2.ensures c.if-is_glob.true

pub returns-else-is_glob : goal.returns-else-is_glob
returns-else-is_glob c = besides-other _ _ _ _ c.is_glob.ensures c.is_glob-2.ensures c.if-is_glob.false
