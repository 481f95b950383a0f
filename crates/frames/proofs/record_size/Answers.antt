-- `frames::record_size` meets its contract: a record is its number and its bytes.
use Rattle.number.proofs.Texts.{text-size}
use Rattle.frames.proofs.Candidates.{candidate-number, record-fits}
use borrow.Author.Rules.{rules}
use Rattle.frames.proofs.record_size.Goals as goal

pub size-requires : goal.size-requires
size-requires c = search (candidate-number, rules)

pub overflow_add-result : goal.overflow_add-result
overflow_add-result c = search record-fits

pub returns : goal.returns
returns c = search text-size
