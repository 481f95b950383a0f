-- `spec_list::each_checked` meets its contract: the specs that are behind and those that are left make the whole.
use Prim.Native.Nat.{◌-◌}
use lib.ListN.{length}
use Rattle.meaning.specs.Lists.{spec_record}
use Rattle.list.proofs.Readings.{Reading}
use Rattle.spec_list.proofs.each_checked.Given as goal

abbrev pub invariant-loop-r : goal.invariant-loop-r
invariant-loop-r l = Reading (spec_record l.op) l.list l.c.at l.count

abbrev pub decreases-loop-r : goal.decreases-loop-r
decreases-loop-r l = length l.list - l.c.at
