-- `text::count` meets its contract: what was counted and what is left to count make the whole count.
use mathlib.Core.Path.{◌≡◌}
use Prim.Native.Nat.{◌≤◌, ◌+◌}
use lib.ListN.{drop}
use Rattle.meaning.specs.Bytes.{count}
use Rattle.text.proofs.count.Given as goal

abbrev pub invariant-loop-x : goal.invariant-loop-x
invariant-loop-x l = (l.n ≤ l.x-index) × (l.n + count l.b (drop l.x-index l.s) ≡ count l.b l.s)
