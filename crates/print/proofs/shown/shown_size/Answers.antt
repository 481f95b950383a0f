use Rattle.print.proofs.Texts.{measured-starts}
use Rattle.print.proofs.shown.shown_size.Goals as goal

pub loop-b-init : goal.loop-b-init
loop-b-init c = search measured-starts
