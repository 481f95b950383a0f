use Rattle.conflicts.proofs.Filling.{filling-starts, filling-done, filling-few, filling-room, filling-place, filling-side, filling-more}
use Rattle.conflicts.proofs.index.fill.Goals as goal

pub loop-r-init : goal.loop-r-init
loop-r-init c = search filling-starts

pub store-n-requires : goal.store-n-requires
store-n-requires c = (search filling-room, search filling-place, search filling-side)

pub loop-r-preserved : goal.loop-r-preserved
loop-r-preserved c = search filling-more

pub returns : goal.returns
returns c = (search filling-done, search filling-few)
