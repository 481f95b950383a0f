-- There is no colon, or the last one parts the sides. Assumes nothing.
use mathlib.Core.Path.{◌≡◌, sym}
use native.Mathlib.Omega.{arith}
use Rattle.refused_line.proofs.Sides.{sides-uncut, sides-cut}
use Rattle.refused_line.proofs.byte.split.Goals as goal

pub returns-in_default : goal.returns-in_default
returns-in_default c = let h = sym c.in_default.ensures in search sides-uncut

pub returns : goal.returns
returns c =
    let h = c.in-Some.ensures in
    let n : (c.in-Some.n ≡ 0 → ⊥) = λ e. omega arith in
    search sides-cut
