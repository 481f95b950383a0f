-- `name::name_partial` meets its contract: a name opens well, and all its bytes stand.
use Rattle.text.proofs.Rows.{pass}
use Rattle.name.proofs.Names.{name-row}
use Rattle.name.proofs.Standing.{name-stands}
use Rattle.name.proofs.name_partial.Goals as goal

pub returns-else-opens : goal.returns-else-opens
returns-else-opens c = rw (name-row, ← c.opens.ensures, c.if-opens.false)

pub returns-then-opens : goal.returns-then-opens
returns-then-opens c = rw name-row (search (pass, name-stands))
