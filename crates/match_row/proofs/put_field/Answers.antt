-- There are ends, and their row is written.
use Rattle.match_row.proofs.Standing.{field-some, field-within, stands-room, stands-put}
use Rattle.match_row.proofs.Kept.{field-small, lent_is}
use Rattle.match_row.proofs.put_field.Goals as goal

pub put_row-requires : goal.put_row-requires
put_row-requires g c = (search lent_is, search (field-small, field-within), search stands-room)

pub returns-in-None : goal.returns-in-None
returns-in-None g c = absurd (search field-some)

pub returns-in-Some : goal.returns-in-Some
returns-in-Some g c = search stands-put
