-- `conflict::sources::source_size` meets its contract: the bytes of three numbers and of a text.
use Rattle.conflict.proofs.Pieces.{two-fit, three-fit, source_fits, source-small, source-size}
use Rattle.conflict.proofs.sources.source_size.Goals as goal

pub overflow_add-result : goal.overflow_add-result
overflow_add-result c = search two-fit

pub overflow_add-result-2 : goal.overflow_add-result-2
overflow_add-result-2 c = search three-fit

pub overflow_add-result-3 : goal.overflow_add-result-3
overflow_add-result-3 c = search source_fits

pub returns : goal.returns
returns c = (search source-size, search source-small)
