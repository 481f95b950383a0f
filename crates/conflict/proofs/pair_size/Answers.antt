-- `conflict::pair_size` meets its contract: one source is no conflict.
use Rattle.conflict.proofs.Shares.{one_size, two_size, two-small}
use borrow.Author.Rules.{rules}
use Rattle.conflict.proofs.pair_size.Goals as goal

pub returns-then-count-lt2 : goal.returns-then-count-lt2
returns-then-count-lt2 c = (search one_size, search rules)

pub returns : goal.returns
returns c = (search two_size, search two-small)
