-- `frames::candidate_size` meets its contract: a candidate is what leads the name, the name and what trails it.
use Rattle.frames.proofs.Candidates.{framed-size}
use Rattle.frames.proofs.candidate_size.Goals as goal

pub returns : goal.returns
returns c = search framed-size
