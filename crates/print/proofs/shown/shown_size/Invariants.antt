-- `print::shown::shown_size` meets its contract: what is measured and the bytes that are left make the whole.
use Rattle.print.proofs.Texts.{Measured}
use Rattle.print.proofs.shown.shown_size.Given as goal

abbrev pub invariant-loop-b : goal.invariant-loop-b
invariant-loop-b l = Measured l.t l.size l.b-index
