-- `kept_rows::name_fix_size` meets its contract: a full destination gives no fix, another its number, its name and its spec.
use Rattle.kept_rows.proofs.Fixes.{full_size, fix-size, fix-small, fix-fits, name-fits}
use borrow.Author.Rules.{rules}
use Rattle.kept_rows.proofs.name_fix_size.Goals as goal

pub returns-then-is_full : goal.returns-then-is_full
returns-then-is_full c = (search full_size, search rules)

pub overflow_add-result : goal.overflow_add-result
overflow_add-result c = search name-fits

pub overflow_add-result-else-is_full : goal.overflow_add-result-else-is_full
overflow_add-result-else-is_full c = search fix-fits

pub returns-else-is_full : goal.returns-else-is_full
returns-else-is_full c = (search fix-size, search fix-small)
