-- `compare::begins_by_eights` meets its contract: what is left decides as the whole does, and the last eight bytes have all of it at last.
use mathlib.Core.Path.{◌≡◌}
use lib.ListN.{drop}
use Rattle.meaning.specs.Bytes.{begins}
use Rattle.compare.proofs.begins_by_eights.Given as goal

abbrev pub invariant-loop-i : goal.invariant-loop-i
invariant-loop-i l = begins (drop l.i l.p) (drop l.i l.s) ≡ begins l.p l.s
