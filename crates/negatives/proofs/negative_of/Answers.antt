-- `negatives::negative_of` meets its contract: the source decides, with a destination where one is there.
use Rattle.negatives.proofs.Arms.{of-both, of-source}
use Rattle.negatives.proofs.negative_of.Goals as goal

pub returns-then-is_present : goal.returns-then-is_present
returns-then-is_present c = search of-both

pub returns : goal.returns
returns c = search of-source
