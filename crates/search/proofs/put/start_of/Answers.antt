-- No item, or the place of its name.
use Rattle.search.proofs.Writes.{field-start}
use Rattle.search.proofs.put.start_of.Goals as goal

pub returns : goal.returns
returns c = search field-start
