-- `kept_rows::put_fix` meets its contract: only a destination that is there gives a fix.
use native.Mathlib.Omega.{arith}
use borrow.Author.Rules.{rules}
use Rattle.parse.proofs.Parts.{part-within}
use Rattle.kept_rows.proofs.Fixes.{none-put, none_end, part_room, part-put, part_end, lent-long}
use Rattle.kept_rows.proofs.put_fix.Goals as goal

pub put_name_fix-requires : goal.put_name_fix-requires
put_name_fix-requires c = (omega (arith, lent-long c.args.rows.now c.in-Part.at c.in-Part.n (search (part-within, rules))), search rules, search part_room)

pub returns-in-Part : goal.returns-in-Part
returns-in-Part c = (search part-put, search part_end)

pub returns-in-Absent : goal.returns-in-Absent
returns-in-Absent c = (search none-put, search none_end)
