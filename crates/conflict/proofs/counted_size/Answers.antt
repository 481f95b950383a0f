-- `conflict::counted_size` meets its contract: fewer than two sources are no conflict.
use Rattle.conflict.proofs.Shares.{few-none, size-two, size-three, size_small, counted-whole}
use borrow.Author.Rules.{rules}
use Rattle.conflict.proofs.counted_size.Goals as goal

pub returns-then-sources-lt2 : goal.returns-then-sources-lt2
returns-then-sources-lt2 c = (search few-none, search rules)

pub overflow_add-result : goal.overflow_add-result
overflow_add-result c = search size-two

pub overflow_add-result-else-sources-lt2 : goal.overflow_add-result-else-sources-lt2
overflow_add-result-else-sources-lt2 c = search size-three

pub returns-else-sources-lt2 : goal.returns-else-sources-lt2
returns-else-sources-lt2 c = (search counted-whole, search size_small)
