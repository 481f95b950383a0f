use Rattle.search.proofs.Finding.{row-begin, row_next, row-measured, row-noted, specs-fit, specs-small}
use borrow.Author.Rules.{rules}
use Rattle.search.proofs.found.specs_found.Goals as goal

pub loop-i-init : goal.loop-i-init
loop-i-init g c = search row-begin

pub overflow_add-size : goal.overflow_add-size
overflow_add-size g c = search (specs-fit, rules)

pub loop-i-preserved : goal.loop-i-preserved
loop-i-preserved g c = search row_next

pub returns : goal.returns
returns g c = (search row-measured, search (specs-small, rules), search row-noted)
