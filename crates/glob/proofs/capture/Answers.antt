-- `glob::capture` meets its contract: after the start, the end decides.
use Rattle.glob.proofs.Ends.{begins-short, start-off, start-at, start_none, start-after}
use borrow.Author.Rules.{rules}
use borrow.Author.Rules.{rules}
use Rattle.glob.proofs.capture.Goals as goal

pub returns-then-not-begins : goal.returns-then-not-begins
returns-then-not-begins c = (search start-off, search start_none, tt)

pub before_end-requires : goal.before_end-requires
before_end-requires c = search begins-short

pub returns : goal.returns
returns c = (search start-at, search start-after, search rules)
