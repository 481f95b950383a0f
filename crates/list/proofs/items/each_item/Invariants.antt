-- `list::items::each_item` meets its contract: the items that are behind and those that are left make the whole.
use Prim.Native.Nat.{◌-◌}
use lib.ListN.{length}
use Rattle.meaning.specs.Lists.{item_record}
use Rattle.list.proofs.Readings.{Reading}
use Rattle.list.proofs.items.each_item.Given as goal

abbrev pub invariant-loop-r : goal.invariant-loop-r
invariant-loop-r l = Reading item_record l.list l.c.at l.count

abbrev pub decreases-loop-r : goal.decreases-loop-r
decreases-loop-r l = length l.list - l.c.at
