-- `group_agrees` meets its contract: the operation, both lists after their lengths in two bytes, and an answer that agrees are the record, and nothing else is. Assumes nothing.
use mathlib.Core.Path.{sym, ◌∙◌}
use Prim.Native.Nat.{◌≤◌}
use native.Mathlib.Omega.{arith}
use borrow.Author.Tests.{eqb-false}
use lib.ListN.{length}
use Rattle.recorded_groups.proofs.Answers.{items-differ, record-whole}
use Rattle.recorded_groups.proofs.group_agrees.Goals as goal

pub returns-in_default-text_end : goal.returns-in_default-text_end
returns-in_default-text_end c = search items-differ

pub returns : goal.returns
returns c =
    let some = eqb-false _ _ (sym c.is_empty.ensures ∙ c.if-is_empty.false) in
    let n : 1 ≤ length c.args.told.now = omega (arith, some) in
    search record-whole
