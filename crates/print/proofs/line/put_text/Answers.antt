-- `print::line::put_text` meets its contract: the text, and then a byte.
use Rattle.print.proofs.Fields.{field_room, end-room, field_put, field-ends}
use Rattle.print.proofs.line.put_text.Goals as goal

pub put_shown-i-requires : goal.put_shown-i-requires
put_shown-i-requires c = search field_room

pub put_byte-requires : goal.put_byte-requires
put_byte-requires c = search end-room

pub returns : goal.returns
returns c = (search field_put, search field-ends)
