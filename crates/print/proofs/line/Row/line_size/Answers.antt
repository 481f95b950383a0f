-- `print::line::Row::line_size` meets its contract: its fields, and a byte after each.
use mathlib.Core.Path.{ap}
use native.Mathlib.Omega.{arith}
use lib.ListN.{length}
use Rattle.print.proofs.Lines.{line-length}
use Rattle.print.proofs.line.Row.line_size.Goals as goal

pub returns : goal.returns
returns c = let k = ap length c.kind_word.ensures.0 in (search line-length, omega arith)
