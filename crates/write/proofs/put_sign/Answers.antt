-- `write::put_sign` meets its contract: where there is no sign nothing is written.
use mathlib.Core.Path.{refl, sym}
use Rattle.buffer.proofs.Splices.{splice-none}
use Rattle.write.proofs.put_sign.Goals as goal

pub returns-in-None : goal.returns-in-None
returns-in-None c = rw c.in-None.is (sym (splice-none c.args.out.now 0), refl)
