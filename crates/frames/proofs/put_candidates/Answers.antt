use Rattle.frames.proofs.Candidates.{listing-starts, listing-room, listing-more, listing-put, listing-ends}
use borrow.Author.Rules.{rules}
use Rattle.frames.proofs.put_candidates.Goals as goal

pub loop-k-init : goal.loop-k-init
loop-k-init c = search listing-starts

pub put_record-i-requires : goal.put_record-i-requires
put_record-i-requires c = search (listing-room, rules)

pub loop-k-preserved : goal.loop-k-preserved
loop-k-preserved c = search listing-more

pub returns : goal.returns
returns c = (search listing-put, search listing-ends)
