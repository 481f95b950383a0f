-- No row, or the one that the ends make.
use Rattle.match_row.proofs.Objects.{object-none, object-size}
use borrow.Author.Rules.{rules}
use Rattle.match_row.proofs.object_size.Goals as goal

pub returns-in-None : goal.returns-in-None
returns-in-None c = (search object-none, search rules)

pub returns-in-Some : goal.returns-in-Some
returns-in-Some c = (search object-size, search rules)
