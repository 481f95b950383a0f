-- `match_one::known_forward` meets its contract: each arm is one kind of source.
use Rattle.match_one.proofs.BySize.{forward-known, known-absent, glob-short, glob-long, known-whole, known-digits}
use Rattle.match_one.proofs.known_forward.Goals as goal

pub returns-in-Absent : goal.returns-in-Absent
returns-in-Absent c = forward-known _ _ c.requires.0 _ _ (search known-absent)

pub returns-in_err-len-in-Glob : goal.returns-in_err-len-in-Glob
returns-in_err-len-in-Glob c = forward-known _ _ c.requires.0 _ _ (search (glob-short, c.in_err-len-in-Glob.was))

pub returns-in_ok-len-in-Glob : goal.returns-in_ok-len-in-Glob
returns-in_ok-len-in-Glob c = forward-known _ _ c.requires.0 _ _ (search (glob-long, c.in_ok-len-in-Glob.was))

pub returns-in-FullName : goal.returns-in-FullName
returns-in-FullName c = forward-known _ _ c.requires.0 _ _ (search known-whole)

pub returns-in-Object : goal.returns-in-Object
returns-in-Object c = forward-known _ _ c.requires.0 _ _ (search known-digits)
