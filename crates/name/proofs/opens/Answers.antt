-- `name::opens` meets its contract: its two questions, one after the other.
use Rattle.meaning.specs.Names.{not_at}
use Rattle.text.proofs.Rows.{row}
use Rattle.name.proofs.opens.Goals as goal

pub returns-then-after_slash : goal.returns-then-after_slash
unfolding not_at
returns-then-after_slash c = search row
