-- `name::kind_by_bytes` meets its contract: the places where the bytes do not stand say how many stars there are, and whether all else stands.
use Rattle.name.proofs.Standing.{kind-closed, kind-name, kind-other, kind-pattern, kind-two}
use Rattle.name.proofs.kind_by_bytes.Goals.{else-s-i-eq42-via-then-s-i-eq42+else-past_standing-rest, else-s-i-eq42-via-else-s-i-eq42}
use Rattle.name.proofs.kind_by_bytes.Goals as goal

pub returns-then-not-opens : goal.returns-then-not-opens
returns-then-not-opens c = search kind-closed

pub returns-then-i-s : goal.returns-then-i-s
returns-then-i-s c = search kind-name

pub returns-then-past_standing-rest : goal.returns-then-past_standing-rest
returns-then-past_standing-rest c = search kind-pattern

pub returns-else-s-i-eq42 : goal.returns-else-s-i-eq42
returns-else-s-i-eq42 c =
    elim c.else-s-i-eq42.branch [
      | else-s-i-eq42-via-then-s-i-eq42+else-past_standing-rest w ↦ search kind-two
      | else-s-i-eq42-via-else-s-i-eq42 w ↦ search kind-other
    ]
