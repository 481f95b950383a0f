-- `spec_list::each_spec` meets its contract: the specs that are behind and those that are left make the whole.
use Prim.Native.Nat.{◌-◌}
use lib.ListN.{length}
use Rattle.spec_list.proofs.Groups.{Filling}
use Rattle.spec_list.proofs.each_spec.Given as goal

abbrev pub invariant-loop-r : goal.invariant-loop-r
invariant-loop-r l = Filling l.op l.list l.specs l.c.at l.count

abbrev pub decreases-loop-r : goal.decreases-loop-r
decreases-loop-r l = length l.list - l.c.at
