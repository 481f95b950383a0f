-- `kept_rows::row_size` meets its contract: a kept row takes its own bytes, another none.
use Rattle.number.proofs.Round.{octets-of}
use Rattle.kept_rows.proofs.Spelled.{kept-size, kept_small, gone-size}
use borrow.Author.Rules.{rules}
use Rattle.kept_rows.proofs.row_size.Goals as goal

pub returns-then-is_kept : goal.returns-then-is_kept
returns-then-is_kept c = let o = octets-of c.args.rows.now c.type_inv.rows in (search kept-size, search kept_small)

pub returns-else-is_kept : goal.returns-else-is_kept
returns-else-is_kept c = (search gone-size, search rules)
