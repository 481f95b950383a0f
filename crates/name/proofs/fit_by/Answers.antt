use Prim.Native.Nat.{◌+◌, ◌-◌, ◌≤◌}
use mathlib.Core.Path.{◌≡◌}
use mathlib.Core.Bool.{true}
use native.Mathlib.Omega.{arith}
use Rattle.name.specs.Rules.{fitting}
use Rattle.name.proofs.Fitting.{fit-many, fit-last}
use Rattle.name.proofs.fit_by.Goals as goal

pub loop-i-preserved : goal.loop-i-preserved
loop-i-preserved g c = search fit-many

pub returns-else-not-fit : goal.returns-else-not-fit
returns-else-not-fit g c = λ t. search fit-last

pub returns-else-not-fit-2 : goal.returns-else-not-fit-2
returns-else-not-fit-2 g c =
    let h : c.args.m - g.row.N ≤ c.loop-i.i + g.row.N = omega arith in
    let k : fitting (c.loop-i.i + g.row.N) c.args.s.now ≡ true = search fit-many in
    λ t. search fit-last
