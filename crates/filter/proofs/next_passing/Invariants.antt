-- `filter::next_passing` meets its contract: from each name passed over the first that passes is the same one.
use Prim.Native.Nat.{◌-◌, ◌≤◌}
use mathlib.Core.Path.{◌≡◌}
use Rattle.filter.specs.Filters.{next_passing}
use Rattle.filter.proofs.next_passing.Given as goal

abbrev pub invariant-loop-j : goal.invariant-loop-j
invariant-loop-j l = (l.j ≤ l.n) × (next_passing l.f l.items l.places l.n l.j ≡ next_passing l.f l.items l.places l.n l.from)

abbrev pub decreases-loop-j : goal.decreases-loop-j
decreases-loop-j l = l.n - l.j
