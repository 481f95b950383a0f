-- The length comes before the bytes that it counts, and has three bytes at most. Assumes nothing.
use Rattle.number.proofs.Texts.{text-size}
use Rattle.row.proofs.Rows.{text-fits, source-small}
use Rattle.row.proofs.source_size.Goals as goal

pub overflow_add-result : goal.overflow_add-result
overflow_add-result c = search text-fits

pub returns : goal.returns
returns c = (search text-size, search source-small)
