-- Both sides make the matcher. Assumes nothing.
use Rattle.matcher.proofs.Needles.{matcher-is}
use borrow.Author.Rules.{rules}
use Rattle.matcher.proofs.matcher.Goals as goal

pub returns : goal.returns
returns c = (search rules, search rules, search matcher-is)
