-- `kept_rows::put_either` meets its contract: a kept row is copied and has no fix; one that goes out gives its fix.
use Rattle.number.proofs.Round.{octets-of}
use Rattle.kept_rows.proofs.Spelled.{kept-room, kept_put, kept-end, gone-put, gone-end, no-fix-put, no-fix-end, fix-room, fix-put, fix-end}
use borrow.Author.Rules.{rules}
use Rattle.kept_rows.proofs.put_either.Goals as goal

pub put-requires : goal.put-requires
put-requires c = let o = octets-of c.args.rows.now c.type_inv.rows in search kept-room

pub returns-then-is_kept : goal.returns-then-is_kept
returns-then-is_kept c = let o = octets-of c.args.rows.now c.type_inv.rows in (search kept_put, search no-fix-put, search kept-end, search no-fix-end)

pub put_fix-requires : goal.put_fix-requires
put_fix-requires c = (search rules, search rules, search rules, search fix-room)

pub returns-else-is_kept : goal.returns-else-is_kept
returns-else-is_kept c = (search gone-put, search fix-put, search gone-end, search fix-end)
