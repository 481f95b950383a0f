-- `name::fit` meets its contract: what was asked so far is whether so many bytes fit.
use mathlib.Core.Path.{◌≡◌}
use lib.ListN.{drop}
use Rattle.name.specs.Rules.{fitting}
use Rattle.name.proofs.fit.Given as goal

abbrev pub invariant-loop-k : goal.invariant-loop-k
invariant-loop-k g l = l.all ≡ fitting l.k (drop l.i l.s)
