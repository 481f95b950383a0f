use Rattle.text.proofs.Rows.{fail, pass}
use Rattle.name.proofs.Stars.{side-row}
use Rattle.name.proofs.Standing.{pattern-fails, pattern-done}
use Rattle.name.proofs.pattern.Goals as goal

pub returns-then-not-opens : goal.returns-then-not-opens
returns-then-not-opens c = rw side-row (search fail)

pub returns-then-not-stands : goal.returns-then-not-stands
returns-then-not-stands c = rw side-row (search (pass, pattern-fails))

pub returns : goal.returns
returns c = rw side-row (search (pass, pattern-done))
