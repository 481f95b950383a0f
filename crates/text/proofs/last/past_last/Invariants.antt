-- `text::last::past_last` meets its contract: the bytes that are left have the same last b, and std finds its place among them.
use Rattle.std.proofs.Common.{◌≡◌, ◌≤◌, length}
use Rattle.text.specs.Last.{past_last}
use Rattle.text.proofs.last.past_last.Given as goal

abbrev pub invariant-loop-front : goal.invariant-loop-front
invariant-loop-front l = (past_last l.b l.rest ≡ past_last l.b l.s) × (length l.rest ≤ length l.s)

abbrev pub decreases-loop-front : goal.decreases-loop-front
decreases-loop-front l = length l.rest
