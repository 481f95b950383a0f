-- `bytes_field` meets its contract: the rest of the record begins with the bytes, or it does not. Assumes nothing.
use Rattle.recorded.proofs.Fields.{field-yes, field-no}
use Rattle.recorded.proofs.field.bytes_field.Goals as goal

pub returns-then-begins : goal.returns-then-begins
returns-then-begins c = search field-yes

pub returns : goal.returns
returns c = search field-no
