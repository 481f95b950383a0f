-- `row_fields::destination_after` meets its contract: none, too few bytes, or one less than its number.
use Rattle.row_fields.proofs.Fields.{after-short, after-present}
use Rattle.row_fields.proofs.destination_after.Goals as goal

pub returns-then-s-at : goal.returns-then-s-at
returns-then-s-at c = search after-short

pub returns : goal.returns
returns c = search after-present
