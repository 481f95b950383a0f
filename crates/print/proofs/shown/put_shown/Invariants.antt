-- `print::shown::put_shown` meets its contract: what is written and the bytes that are left make the whole.
use Rattle.print.proofs.Texts.{Showing}
use Rattle.print.proofs.shown.put_shown.Given as goal

abbrev pub invariant-loop-b : goal.invariant-loop-b
invariant-loop-b l = Showing l.initial.out l.initial.end l.t l.out l.end l.b-index
