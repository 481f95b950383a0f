-- What is written, and what the hits that are left give, make the whole; the matcher that is kept is that of the last hit's spec.
use mathlib.Core.Path.{◌≡◌}
use Prim.Native.Nat.{◌≤◌}
use lib.ListN.{length}
use Rattle.matcher_table.specs.Numbers.{matcher_at}
use Rattle.search.specs.Hits.{hit_bytes}
use Rattle.search.proofs.Writes.{HitsWritten}
use Rattle.search.proofs.put.put_hits.Given as goal

abbrev pub invariant-loop-noted : goal.invariant-loop-noted
invariant-loop-noted g l = HitsWritten (hit_bytes g.D.Direction.back l.specs l.table l.items l.places) l.hits l.initial.out l.at l.noted-index l.out l.end × (l.noted-index ≤ length l.hits) × (l.m ≡ matcher_at l.table l.last)
