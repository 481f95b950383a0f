use Rattle.percent.proofs.Walks.{putting-starts, putting-more, putting-whole}
use Rattle.percent.proofs.put_text.Goals as goal

pub loop-i-init : goal.loop-i-init
loop-i-init c = search putting-starts

pub loop-i-preserved : goal.loop-i-preserved
loop-i-preserved c = search putting-more

pub returns : goal.returns
returns c = search putting-whole
