-- `row_list::object_digits` meets its contract: as many bytes as an object id has, and each a lower-case digit.
use Rattle.row_list.proofs.RowQuestions.{digits-other, digits-many}
use Rattle.row_list.proofs.object_digits.Goals as goal

pub returns-else-t-eq-ID_DIGITS : goal.returns-else-t-eq-ID_DIGITS
returns-else-t-eq-ID_DIGITS c = search digits-other

pub returns-then-t-eq-ID_DIGITS : goal.returns-then-t-eq-ID_DIGITS
returns-then-t-eq-ID_DIGITS c = search digits-many
