-- The slice is the part.
use Rattle.parse.proofs.Parts.{part_of}
use Rattle.search.proofs.found.part.Goals as goal

pub returns : goal.returns
returns c = search part_of
