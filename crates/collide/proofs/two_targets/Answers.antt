-- `collide::two_targets` meets its contract: where one target is nowhere, nothing is shared.
use Rattle.collide.proofs.Told.{none_told}
use Rattle.collide.proofs.Shared.{first-absent, second-absent}
use Rattle.collide.proofs.two_targets.Goals.{in-Absent-1, in-Pattern+in-Absent-1, in-Literal+in-Absent-1}
use Rattle.collide.proofs.two_targets.Goals as goal

pub returns-in-Absent-default : goal.returns-in-Absent-default
returns-in-Absent-default c = elim c.in-Absent-default-1.branch [ in-Absent-1 w ↦ search (none_told, first-absent, second-absent) | in-Pattern+in-Absent-1 w ↦ search (none_told, first-absent, second-absent) | in-Literal+in-Absent-1 w ↦ search (none_told, first-absent, second-absent) ]
