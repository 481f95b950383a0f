-- `row_list::next_row` meets its contract: the end, a row that was read and asked question 16, or none that is well formed.
use Rattle.row_list.proofs.RowSteps.{row-past, row-outside, outside-told, row-passed, row_told, row-broken, broken-told}
use borrow.Author.Rules.{rules}
use Rattle.row_list.proofs.next_row.Goals as goal

pub returns-then-list-c : goal.returns-then-list-c
returns-then-list-c c = (search row-past, search rules)

pub returns-in_default : goal.returns-in_default
returns-in_default c = (search row-broken, search broken-told)

pub returns-then-not-row_passes : goal.returns-then-not-row_passes
returns-then-not-row_passes c = (search row-outside, search outside-told)

pub returns : goal.returns
returns c = (search row-passed, search row_told)
