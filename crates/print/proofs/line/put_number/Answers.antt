-- `print::line::put_number` meets its contract: the digits, and then a byte.
use Rattle.print.proofs.Fields.{field_room, end-room, field_put, field-ends}
use Rattle.print.proofs.line.put_number.Goals as goal

pub put_decimal-i-requires : goal.put_decimal-i-requires
put_decimal-i-requires c = search field_room

pub put_byte-requires : goal.put_byte-requires
put_byte-requires c = search end-room

pub returns : goal.returns
returns c = (search field_put, search field-ends)
