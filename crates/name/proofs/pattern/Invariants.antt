-- `name::pattern` meets its contract: each byte passed stands, or is a star.
use mathlib.Core.Path.{◌≡◌}
use lib.ListN.{drop}
use Rattle.name.proofs.Tails.{tails}
use Rattle.name.proofs.Stars.{star_or_stands}
use Rattle.name.proofs.pattern.Given as goal

abbrev pub invariant-loop-i : goal.invariant-loop-i
invariant-loop-i l = tails star_or_stands (drop l.i l.s) ≡ tails star_or_stands l.s
