-- `compare::begins_by_bytes` meets its contract: what is left of both texts decides as the whole texts do.
use mathlib.Core.Path.{◌≡◌}
use lib.ListN.{drop}
use Rattle.meaning.specs.Bytes.{begins}
use Rattle.compare.proofs.begins_by_bytes.Given as goal

abbrev pub invariant-loop-i : goal.invariant-loop-i
invariant-loop-i l = begins (drop l.i l.p) (drop l.i l.s) ≡ begins l.p l.s
