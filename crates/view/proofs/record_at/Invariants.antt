-- `view::record_at` meets its contract: the walk that is left leads to the same record.
use Rattle.view.proofs.Walks.{Walk}
use Rattle.view.proofs.record_at.Given as goal

abbrev pub invariant-loop-i : goal.invariant-loop-i
invariant-loop-i l = Walk l.list l.n l._i l.at
