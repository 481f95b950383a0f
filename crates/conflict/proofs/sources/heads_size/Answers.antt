use Rattle.conflict.proofs.Counting.{counting_more, counting-done}
use Rattle.conflict.proofs.sources.heads_size.Goals as goal

pub loop-i-preserved : goal.loop-i-preserved
loop-i-preserved c = search counting_more

pub returns : goal.returns
returns c = search counting-done
