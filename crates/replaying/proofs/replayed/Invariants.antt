-- Each turn counts at most one record, and no more differ than were read: of the tally, `0` is what was read, `1.0` what differs. Assumes nothing.
use Rattle.std.proofs.Common.{◌≤◌}
use Rattle.replaying.proofs.replayed.Given as goal

abbrev pub invariant-loop-turn : goal.invariant-loop-turn
invariant-loop-turn g l = (l.t.0 ≤ l._turn) × (l.t.1.0 ≤ l.t.0)
