-- What is measured and noted, and the specs that are left, make the whole.
use Rattle.negatives.specs.Negatives.{excluded_by}
use Rattle.search.specs.Hits.{spec_gives, spec_hits}
use Rattle.search.specs.Noting.{spec_most}
use Rattle.search.proofs.Finding.{RowFound}
use Rattle.search.proofs.found.specs_found.Given as goal

abbrev pub invariant-loop-i : goal.invariant-loop-i
invariant-loop-i g l = RowFound (spec_gives g.D.Direction.back (excluded_by l.specs l.negatives l.scope.negatives) l.specs l.table l.items l.places l.scope.names) (spec_hits g.D.Direction.back (excluded_by l.specs l.negatives l.scope.negatives) l.specs l.table l.items l.places l.scope.names) l.group spec_most l.initial.hits l.noted l.hits l.size l.known l.i
