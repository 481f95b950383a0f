-- The side, which is lent, stands right after what leads it. Assumes nothing.
use Rattle.row_text.proofs.Writes.{body-lower, body-plain, led-put, led-end}
use Rattle.row_text.proofs.put_led.Goals as goal

pub returns-then-lowers : goal.returns-then-lowers
returns-then-lowers c = (search (led-put, body-lower), search (led-end, body-lower))

pub returns-else-lowers : goal.returns-else-lowers
returns-else-lowers c = (search (led-put, body-plain), search (led-end, body-plain))
