-- `buffer::copy::put_by_bytes` meets its contract: after each turn one byte more of the copy stands, and the copy to its end is the splice.
use mathlib.Core.Path.{◌≡◌}
use lib.ListN.{length}
use lib.Seq.{paste}
use Rattle.buffer.proofs.copy.put_by_bytes.Given as goal

abbrev pub invariant-loop-i : goal.invariant-loop-i
invariant-loop-i l = (l.dst ≡ paste l.initial.dst l.at l.src l.i) × (length l.dst ≡ length l.initial.dst)
