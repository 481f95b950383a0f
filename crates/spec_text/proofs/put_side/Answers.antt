-- `spec_text::put_side` meets its contract: an absent side writes nothing, and ends where it begins.
use native.Mathlib.Nat.{add-zero}
use mathlib.Core.Path.{sym}
use Rattle.buffer.proofs.Splices.{splice-none}
use Rattle.spec_text.proofs.put_side.Goals as goal

pub returns-in-Absent : goal.returns-in-Absent
returns-in-Absent c = rw c.in-Absent.is (sym (splice-none c.args.out.now c.args.at), sym (add-zero c.args.at))
