-- `buffer::copy::store_four` meets its contract: four stores in a row are the splice of four bytes.
use Rattle.buffer.proofs.Copies.{four-stored}
use Rattle.buffer.proofs.copy.store_four.Goals as goal

pub returns : goal.returns
returns c = search four-stored
