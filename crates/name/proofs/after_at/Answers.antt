-- `name::after_at` meets its contract: each pattern is one beginning of the text.
use Rattle.name.proofs.After.{at-none, at-brace, at-other}
use Rattle.name.proofs.after_at.Goals.{in-123, in_default, in_default-2}
use Rattle.name.proofs.after_at.Goals as goal

pub returns : goal.returns
returns c =
    elim c.if-matches.branch [
      | in-123 w ↦ rw w.matches-is (search at-brace)
      | in_default w ↦ rw w.matches-is (search at-none)
      | in_default-2 w ↦ rw w.matches-is (search at-other)
    ]
