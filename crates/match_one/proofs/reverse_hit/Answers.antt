-- `match_one::reverse_hit` meets its contract: each arm is one kind of source, with a destination of its kind or another.
use Rattle.match_one.proofs.Backward.{back-both, back-absent, no-pattern, both-hit, no-literal, same-hit}
use Rattle.match_one.proofs.reverse_hit.Goals as goal

pub returns-in-Absent : goal.returns-in-Absent
returns-in-Absent c = back-both _ _ _ _ (search back-absent)

pub returns-in_default : goal.returns-in_default
returns-in_default c = back-both _ _ _ _ (search no-pattern)

pub returns-in-Pattern : goal.returns-in-Pattern
returns-in-Pattern c = back-both _ _ _ _ (search both-hit)

pub returns-in_default-rhs : goal.returns-in_default-rhs
returns-in_default-rhs c = back-both _ _ _ _ (search no-literal)

pub returns-in-Literal : goal.returns-in-Literal
returns-in-Literal c = back-both _ _ _ _ (search same-hit)
