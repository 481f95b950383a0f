-- `name::fit_by` meets its contract: all bytes passed fit, and the last N have what is left.
use mathlib.Core.Path.{◌≡◌}
use mathlib.Core.Bool.{true}
use Rattle.name.specs.Rules.{fitting}
use Rattle.name.proofs.fit_by.Given as goal

abbrev pub invariant-loop-i : goal.invariant-loop-i
invariant-loop-i g l = fitting l.i l.s ≡ true
