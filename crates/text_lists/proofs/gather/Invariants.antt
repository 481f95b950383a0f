-- `text_lists::gather` meets its contract: what is gathered and the lines that are left make the whole.
use Rattle.text_lists.specs.Line.{lines_left}
use Rattle.text_lists.proofs.Walks.{Walked}
use Rattle.text_lists.proofs.gather.Given as goal

abbrev pub invariant-loop-number : goal.invariant-loop-number
invariant-loop-number l =
    goal.iterator-loop-number.can_next l.number-iterator ×
    goal.iterator-loop-number.is_finite l.number-iterator ×
    Walked l.input l.initial.specs l.initial.items (lines_left l.number-iterator.passed l.number-iterator.rest.now) l.so l.specs l.items
