-- `kept_rows::put_name_fix` meets its contract: the name is written right after its length, the spec number right after the name.
use Rattle.kept_rows.proofs.Fixes.{full_put, full-end, fix-first, fix-second, fix-third, fix-put, fix-end}
use borrow.Author.Rules.{rules}
use Rattle.kept_rows.proofs.put_name_fix.Goals as goal

pub returns-then-is_full : goal.returns-then-is_full
returns-then-is_full c = (search full_put, search full-end)

pub put-i-requires : goal.put-i-requires
put-i-requires c = (search rules, search fix-first)

pub put-j-requires : goal.put-j-requires
put-j-requires c = search fix-second

pub put-requires : goal.put-requires
put-requires c = (search rules, search fix-third)

pub returns : goal.returns
returns c = (search fix-put, search fix-end)
