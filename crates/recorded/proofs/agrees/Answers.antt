-- `agrees` meets its contract: the operation, the spec after its length in two bytes, and an answer that agrees are the record, and nothing else is. Assumes nothing.
use mathlib.Core.Path.{sym, ◌∙◌}
use native.Mathlib.Omega.{arith}
use borrow.Author.Tests.{eqb-true, eqb-false}
use Rattle.recorded.proofs.Answers.{record-none, record-cut, record-whole}
use Rattle.recorded.proofs.agrees.Goals as goal

pub returns-then-is_empty : goal.returns-then-is_empty
returns-then-is_empty c = record-none _ (eqb-true _ _ (sym c.is_empty.ensures ∙ c.if-is_empty.true))

pub returns-in_default : goal.returns-in_default
returns-in_default c = search record-cut

pub returns : goal.returns
returns c =
    let some = eqb-false _ _ (sym c.is_empty.ensures ∙ c.if-is_empty.false) in
    record-whole _ _ c.text_end.ensures _ c.in-Some.is _ _ (omega (arith, some)) c.from.ensures c.answer_agrees.ensures
