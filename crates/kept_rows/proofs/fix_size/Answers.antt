-- `kept_rows::fix_size` meets its contract: only a destination that is there gives a fix.
use native.Mathlib.Omega.{arith}
use borrow.Author.Rules.{rules}
use Rattle.parse.proofs.Parts.{part-within}
use Rattle.kept_rows.proofs.Fixes.{none-size, part-size, lent-long}
use Rattle.kept_rows.proofs.fix_size.Goals as goal

pub returns-in-Part : goal.returns-in-Part
returns-in-Part c = (search part-size, omega (arith, lent-long c.args.rows.now c.in-Part.at c.in-Part.n (search (part-within, rules))))

pub returns-in-Absent : goal.returns-in-Absent
returns-in-Absent c = (search none-size, search rules)
