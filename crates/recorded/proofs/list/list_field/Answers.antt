-- `list_field` meets its contract: after k turns the first k texts of the list stand in the record, and the others are left in the list. Assumes nothing.
use mathlib.Core.Path.{◌∙◌}
use Rattle.recorded.proofs.Lists.{turn-within, turn-passes, turn-differs, list-none, passing-fewer, list_done}
use Rattle.recorded.proofs.list.list_field.Goals as goal

pub returns-in_err-many : goal.returns-in_err-many
returns-in_err-many c l e = c.from_residual.ensures ∙ search (list-none, c.in_err-many.ensures.lookup)

pub returns-in_err-passed : goal.returns-in_err-passed
returns-in_err-passed c l e =
    let b = c.in_ok-many.ensures.lookup.3 in
    c.from_residual-in_err-passed.ensures ∙ search (turn-differs, c.in_err-passed.was, c.loop-k.invariant.1, b.1 0)

pub loop-k-preserved : goal.loop-k-preserved
loop-k-preserved c = (search (turn-within, c.in_ok-passed.was), search (turn-passes, c.in_ok-passed.was))

pub returns-then-passed-list : goal.returns-then-passed-list
returns-then-passed-list c l q = let b = c.in_ok-many.ensures.lookup.3 in search (passing-fewer, c.loop-k.invariant.1 l q, b.1 0)

pub returns : goal.returns
returns c = let b = c.in_ok-many.ensures.lookup.3 in search (list_done, b.1 0, b.0, c.loop-k.auto._k-end)
