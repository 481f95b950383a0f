use Rattle.print.proofs.Texts.{sign-room, showing-starts, showing-more, shown-put, shown-ends}
use Rattle.print.proofs.shown.put_shown.Goals as goal

pub put_byte-end-requires : goal.put_byte-end-requires
put_byte-end-requires c = search sign-room

pub loop-b-init : goal.loop-b-init
loop-b-init c = search showing-starts

pub loop-b-preserved : goal.loop-b-preserved
loop-b-preserved c = search showing-more

pub returns : goal.returns
returns c = (search shown-put, search shown-ends)
