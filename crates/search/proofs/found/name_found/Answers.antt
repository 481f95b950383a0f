-- What is measured is noted.
use Rattle.search.proofs.Notes.{size-noted}
use borrow.Author.Rules.{rules}
use Rattle.search.proofs.found.name_found.Goals as goal

pub returns : goal.returns
returns g c = (search rules, search rules, search size-noted)
