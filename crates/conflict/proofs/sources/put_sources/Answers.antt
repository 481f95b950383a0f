use Rattle.conflict.proofs.Listing.{putting-room, putting-more, putting-done, putting-place}
use borrow.Author.Rules.{rules}
use Rattle.conflict.proofs.sources.put_sources.Goals as goal

pub put_source-to-requires : goal.put_source-to-requires
put_source-to-requires c = (search rules, search putting-room)

pub loop-p-preserved : goal.loop-p-preserved
loop-p-preserved c = search putting-more

pub returns : goal.returns
returns c = (search putting-done, search putting-place)
