-- `deliver::print_parts` meets its contract: the two slices are the two lists.
use Rattle.deliver.proofs.Inputs.{parts-few, parts-both}
use Rattle.deliver.proofs.print_parts.Goals as goal

pub returns-then-input-at : goal.returns-then-input-at
returns-then-input-at c = search parts-few

pub returns : goal.returns
returns c = search parts-both
