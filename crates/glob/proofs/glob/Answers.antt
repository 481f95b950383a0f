-- `glob::glob` meets its contract: the start and the end are the parts of the text beside its star.
use Rattle.glob.proofs.Ends.{star-at, star-parts}
use borrow.Author.Rules.{rules}
use borrow.Author.Rules.{rules}
use Rattle.glob.proofs.glob.Goals as goal

pub returns : goal.returns
returns c = (search star-at, search star-parts, search rules)
