-- A star is told by its place. Assumes nothing.
use mathlib.Core.Path.{sym}
use native.Mathlib.Nat.{le_refl}
use Rattle.matcher.proofs.Needles.{target-star, target-literal}
use Rattle.matcher.proofs.needle.text_target.Goals as goal

pub returns-in-Some : goal.returns-in-Some
returns-in-Some c = let h = c.in-Some.ensures in search target-star

pub returns-in-None : goal.returns-in-None
returns-in-None c = let h = sym c.in-None.ensures in search (target-literal, le_refl)
