use Rattle.prefixes.proofs.Adding.{adding-more}
use Rattle.prefixes.proofs.add_six.Goals as goal

pub loop-frame-preserved : goal.loop-frame-preserved
loop-frame-preserved c = search adding-more
