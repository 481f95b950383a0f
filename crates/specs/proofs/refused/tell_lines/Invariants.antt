-- No line that is left is longer than the text. Assumes nothing.
use Rattle.meaning.specs.Limits.{program_bytes}
use Rattle.text_lists.specs.Line.{lines_left}
use Rattle.text_lists.proofs.Lines.{LinesShort}
use Rattle.specs.proofs.refused.tell_lines.Given as goal

abbrev pub invariant-loop-number : goal.invariant-loop-number
invariant-loop-number g l =
    (goal.iterator-loop-number g).can_next l.number-iterator ×
    (goal.iterator-loop-number g).is_finite l.number-iterator ×
    LinesShort program_bytes (lines_left l.number-iterator.passed l.number-iterator.rest.now)
