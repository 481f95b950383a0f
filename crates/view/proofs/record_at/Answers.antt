use Rattle.view.proofs.Walks.{walk_more, walk_ends}
use borrow.Author.Rules.{rules}
use Rattle.view.proofs.record_at.Goals as goal

pub loop-i-preserved : goal.loop-i-preserved
loop-i-preserved c = search walk_more

pub returns : goal.returns
returns c = (search walk_ends, search rules)
