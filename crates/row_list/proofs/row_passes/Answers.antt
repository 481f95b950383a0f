-- `row_list::row_passes` meets its contract: the spec number, then the kind, then the digits.
use Rattle.row_list.proofs.RowQuestions.{passes-no-spec, passes-name, passes-no-kind, passes-object}
use Rattle.row_list.proofs.row_passes.Goals as goal

pub returns-else-row-specs : goal.returns-else-row-specs
returns-else-row-specs c = search passes-no-spec

pub returns-then-row-eq0 : goal.returns-then-row-eq0
returns-then-row-eq0 c = search passes-name

pub returns-else-row-eq1 : goal.returns-else-row-eq1
returns-else-row-eq1 c = search passes-no-kind

pub returns-then-row-eq1 : goal.returns-then-row-eq1
returns-then-row-eq1 c = search passes-object
