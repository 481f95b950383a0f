-- No item, or the size of its name.
use Rattle.search.proofs.Writes.{field-size}
use Rattle.search.proofs.put.size_of.Goals as goal

pub returns : goal.returns
returns c = search field-size
