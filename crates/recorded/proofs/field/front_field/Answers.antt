-- `front_field` meets its contract: the buffer has fewer bytes, or its front decides. Assumes nothing.
use Rattle.recorded.proofs.Texts.{front-beyond, front-within}
use Rattle.recorded.proofs.field.front_field.Goals as goal

pub returns-then-out-n : goal.returns-then-out-n
returns-then-out-n c = search front-beyond

pub returns : goal.returns
returns c = search front-within
