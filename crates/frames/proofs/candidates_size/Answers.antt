use Prim.Native.Nat.{◌<◌}
use Rattle.frames.proofs.Candidates.{measured-starts, measured-more, measured-fits, measured-whole}
use native.Mathlib.Omega.{arith}
use Rattle.frames.proofs.candidates_size.Goals as goal

pub loop-k-init : goal.loop-k-init
loop-k-init c = search measured-starts

pub overflow_add-size : goal.overflow_add-size
overflow_add-size c = let h : c.loop-k.k < 6 = omega arith in search measured-fits

pub loop-k-preserved : goal.loop-k-preserved
loop-k-preserved c = let h : c.loop-k.k < 6 = omega arith in search measured-more

pub returns : goal.returns
returns c = search measured-whole
