-- `print::shown::put_coded` meets its contract: three bytes, one after the other.
use native.Mathlib.Omega.{arith}
use Rattle.print.proofs.Texts.{code_put}
use Rattle.print.proofs.shown.put_coded.Goals as goal

pub returns : goal.returns
returns c = (search code_put, omega arith)
