-- What is measured and noted, and the names that are left, make the whole.
use Prim.Native.Nat.{◌-◌}
use Rattle.negatives.specs.Negatives.{excluded_by}
use Rattle.match_row.specs.Pairs.{matcher_spec}
use Rattle.search.proofs.Finding.{NamesFound}
use Rattle.search.proofs.found.names_found.Given as goal

abbrev pub invariant-loop-j : goal.invariant-loop-j
invariant-loop-j g l = NamesFound g.D.Direction.back (excluded_by l.specs l.negatives l.scope.negatives) (matcher_spec l.specs l.m) l.items l.places l.n l.i l.initial.hits l.initial.known l.hits l.size l.known l.j

abbrev pub decreases-loop-j : goal.decreases-loop-j
decreases-loop-j g l = l.n - l.j
