-- `name::past_letters` meets its contract: each byte passed stands, so what is left stands as far as the whole.
use mathlib.Core.Path.{◌≡◌}
use Prim.Native.Nat.{◌+◌}
use lib.ListN.{drop}
use Rattle.name.specs.Rules.{standing}
use Rattle.name.proofs.past_letters.Given as goal

abbrev pub invariant-loop-i : goal.invariant-loop-i
invariant-loop-i l = l.i + standing (drop l.i l.s) ≡ l.from + standing (drop l.from l.s)
