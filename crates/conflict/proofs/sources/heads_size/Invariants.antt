-- `conflict::sources::heads_size` meets its contract: what is counted and the runs that are left make the whole.
use Prim.Native.Nat.{◌-◌}
use lib.ListN.{length}
use Rattle.conflict.proofs.Counting.{Counting}
use Rattle.conflict.proofs.sources.heads_size.Given as goal

abbrev pub invariant-loop-i : goal.invariant-loop-i
invariant-loop-i l = Counting l.rows l.places l.i l.count l.size

abbrev pub decreases-loop-i : goal.decreases-loop-i
decreases-loop-i l = length l.places - l.i
