-- `buffer::copy::copy_eight` meets its contract: eight bytes that are read and then stored in two halves are a splice.
use Rattle.buffer.proofs.Copies.{eight-copied}
use Rattle.buffer.proofs.copy.copy_eight.Goals as goal

pub returns : goal.returns
returns c = search eight-copied
