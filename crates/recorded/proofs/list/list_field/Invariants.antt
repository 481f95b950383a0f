-- `list_field` meets its contract: after k turns the first k texts of the list stand in the record, and the others are left in the list. Assumes nothing.
use Prim.Native.Nat.{◌≤◌}
use mathlib.Core.Path.{◌≡◌}
use mathlib.Core.List.{List}
use lib.ListN.{length}
use Rattle.meaning.specs.Bytes.{Text}
use Rattle.meaning.specs.Number.{record_bytes}
use Rattle.recorded.proofs.Lists.{Passing}
use Rattle.recorded.proofs.list.list_field.Given as goal

abbrev pub invariant-loop-k : goal.invariant-loop-k
invariant-loop-k l = (l.passed.next ≤ length l.told) × ((texts : List Text) → l.list ≡ record_bytes texts → Passing l.told l.start l.list texts l.passed.next l.passed.at l._k)
