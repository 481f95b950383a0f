use Rattle.prefixes.proofs.Tables.{entry_in, listed-room, listed_more, listed-put}
use borrow.Author.Rules.{rules}
use Rattle.prefixes.proofs.table.put_table.Goals as goal

pub put-at-requires : goal.put-at-requires
put-at-requires c = (search entry_in, search rules, search listed-room)

pub loop-e-preserved : goal.loop-e-preserved
loop-e-preserved c = search listed_more

pub returns : goal.returns
returns c = search listed-put
