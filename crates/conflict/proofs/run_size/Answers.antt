-- `conflict::run_size` meets its contract: a run of one is no conflict.
use Rattle.conflict.proofs.Shares.{short-size}
use borrow.Author.Rules.{rules}
use Rattle.conflict.proofs.run_size.Goals as goal

pub returns-in-0 : goal.returns-in-0
returns-in-0 c = (search short-size, search rules, search rules)
