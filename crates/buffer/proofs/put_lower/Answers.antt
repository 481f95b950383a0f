use native.Mathlib.Omega.{arith}
use Rattle.buffer.proofs.Lowers.{lowering-more, lowering-put, lower-length}
use Rattle.buffer.proofs.put_lower.Goals as goal

pub loop-i-preserved : goal.loop-i-preserved
loop-i-preserved c = search lowering-more

pub returns : goal.returns
returns c = (search lowering-put, omega (arith, lower-length c.args.src.now))
