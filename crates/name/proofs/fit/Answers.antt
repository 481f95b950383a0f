use Rattle.name.proofs.Fitting.{fit-more}
use Rattle.name.proofs.fit.Goals as goal

pub loop-k-preserved : goal.loop-k-preserved
loop-k-preserved g c = search fit-more
