-- `match_one::rows::source_hit` meets its contract: each arm is one kind of source.
use Rattle.match_one.proofs.Onward.{nothing-hit, full-hit, partial-hit, whole-within}
use borrow.Author.Rules.{rules}
use Rattle.match_one.proofs.rows.source_hit.Goals as goal

pub returns-in-Absent : goal.returns-in-Absent
returns-in-Absent c = (search nothing-hit, search rules)

pub returns-in-FullName : goal.returns-in-FullName
returns-in-FullName c = (search full-hit, search whole-within)

pub returns-in-PartialName : goal.returns-in-PartialName
returns-in-PartialName c = (search partial-hit, search whole-within)
