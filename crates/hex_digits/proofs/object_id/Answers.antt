-- `hex_digits::object_id` meets its contract: the length is asked first, then every byte.
use Rattle.std.proofs.Common.{ne_eqb, length}
use Rattle.meaning.specs.Bytes.{object_id}
use Rattle.meaning.specs.Limits.{id_digits}
use Rattle.text.proofs.Rows.{row}
use Rattle.hex_digits.proofs.object_id.Goals as goal

pub returns-then-s-eq-ID_DIGITS : goal.returns-then-s-eq-ID_DIGITS
unfolding object_id
returns-then-s-eq-ID_DIGITS c = search row

pub returns-else-s-eq-ID_DIGITS : goal.returns-else-s-eq-ID_DIGITS
unfolding object_id
returns-else-s-eq-ID_DIGITS c = rw (ne_eqb (length c.args.s.now) id_digits c.if-s-eq-ID_DIGITS.false)
