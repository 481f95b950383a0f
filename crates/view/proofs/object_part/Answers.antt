-- `view::object_part` meets its contract: the spec is read again where it stands, and its source has the digits.
use Rattle.view.proofs.Objects.{object-within, object-read, object-refused}
use borrow.Author.Rules.{rules}
use Rattle.view.proofs.object_part.Goals as goal

pub side_digits-requires : goal.side_digits-requires
side_digits-requires c = (search rules, search object-within)

pub returns-in-Ok : goal.returns-in-Ok
returns-in-Ok c = search object-read

pub returns-in-Err : goal.returns-in-Err
returns-in-Err c = search object-refused
