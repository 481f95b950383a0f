-- `conflict::listed_size` meets its contract: the destination, how many, and the sources.
use Rattle.conflict.proofs.Shares.{size-two, size-three, size_small, size-whole}
use Rattle.conflict.proofs.listed_size.Goals as goal

pub overflow_add-result : goal.overflow_add-result
overflow_add-result c = search size-two

pub overflow_add-result-2 : goal.overflow_add-result-2
overflow_add-result-2 c = search size-three

pub returns : goal.returns
returns c = (search size-whole, search size_small)
