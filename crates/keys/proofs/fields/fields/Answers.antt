-- `keys::fields::fields` meets its contract: the row that was read, or one without anything.
use Rattle.keys.proofs.Rows.{row-found, none_found}
use Rattle.keys.proofs.fields.fields.Goals as goal

pub returns-in-Some : goal.returns-in-Some
returns-in-Some c = search row-found

pub returns-in-None : goal.returns-in-None
returns-in-None c = search none_found
