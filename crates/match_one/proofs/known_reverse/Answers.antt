-- `match_one::known_reverse` meets its contract: each arm is one kind of source, with a destination of its kind or another.
use Rattle.match_one.proofs.BySize.{reverse-known, back-absent, known-no-pattern, both-short, both-long, known-no-literal, known-literal}
use Rattle.match_one.proofs.known_reverse.Goals as goal

pub returns-in-Absent : goal.returns-in-Absent
returns-in-Absent c = reverse-known _ _ c.requires.0 _ _ (search back-absent)

pub returns-in_default : goal.returns-in_default
returns-in_default c = reverse-known _ _ c.requires.0 _ _ (search known-no-pattern)

pub returns-in_err-len-in-Glob : goal.returns-in_err-len-in-Glob
returns-in_err-len-in-Glob c = reverse-known _ _ c.requires.0 _ _ (search (both-short, c.in_err-len-in-Glob.was))

pub returns-in_ok-len-in-Glob : goal.returns-in_ok-len-in-Glob
returns-in_ok-len-in-Glob c = reverse-known _ _ c.requires.0 _ _ (search (both-long, c.in_ok-len-in-Glob.was))

pub returns-in_default-rhs : goal.returns-in_default-rhs
returns-in_default-rhs c = reverse-known _ _ c.requires.0 _ _ (search known-no-literal)

pub returns-in-Literal : goal.returns-in-Literal
returns-in-Literal c = reverse-known _ _ c.requires.0 _ _ (search known-literal)
