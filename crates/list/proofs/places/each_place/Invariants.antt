-- `list::places::each_place` meets its contract: the items are read as `each_item` reads them, and where each stands is written after those before it.
use mathlib.Core.Path.{◌≡◌}
use Prim.Native.Nat.{◌-◌}
use lib.ListN.{length}
use Rattle.meaning.specs.Lists.{item_record}
use Rattle.list.proofs.Readings.{Reading}
use Rattle.list.proofs.Standing.{Standing, Written}
use Rattle.list.proofs.places.each_place.Given as goal

abbrev pub invariant-loop-r : goal.invariant-loop-r
invariant-loop-r l = Reading item_record l.list l.c.at l.count × Standing l.list l.places l.c.at l.count × (length l.places ≡ length l.initial.places) × Written l.list l.initial.places l.places l.c.at l.count

abbrev pub decreases-loop-r : goal.decreases-loop-r
decreases-loop-r l = length l.list - l.c.at
