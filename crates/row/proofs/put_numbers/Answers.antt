-- Each number is written right after the one before it. Assumes nothing.
use Rattle.buffer.proofs.Threes.{three-first}
use Rattle.row.proofs.Rows.{kind-put, kind-end}
use borrow.Author.Rules.{rules}
use Rattle.row.proofs.put_numbers.Goals as goal

pub put-i-requires : goal.put-i-requires
put-i-requires c = (search rules, search three-first)

pub returns : goal.returns
returns c = (search kind-put, search kind-end)
