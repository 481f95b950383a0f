-- What is measured and noted, and the specs that are left, make the whole.
use lib.ListN.{length}
use Rattle.row.specs.Rows.{row_most}
use Rattle.match_row.specs.Pairs.{object_bytes}
use Rattle.search.specs.Hits.{spec_at, hit_if, hit_of}
use Rattle.search.proofs.Finding.{RowFound}
use Rattle.search.proofs.found.objects_found.Given as goal

abbrev pub invariant-loop-i : goal.invariant-loop-i
invariant-loop-i l = RowFound (λ i. object_bytes i (spec_at l.specs l.table i)) (λ i. hit_if (length (object_bytes i (spec_at l.specs l.table i))) (hit_of i 0)) l.group row_most l.initial.hits 0 l.hits l.size l.noted l.i
