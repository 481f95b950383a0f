-- `text_lists::start_after` meets its contract: each turn ends at the start of the next line.
use Rattle.text_lists.proofs.Starts.{Starts}
use Rattle.text_lists.proofs.start_after.Given as goal

abbrev pub invariant-loop-i : goal.invariant-loop-i
invariant-loop-i l = Starts l.s l._i l.at
