-- `collide::literal::lower_digits` meets its contract: the digits of an object id fill the room.
use Rattle.collide.proofs.Pieces.{digits-room, digits-fill}
use Rattle.collide.proofs.literal.lower_digits.Goals as goal

pub put_lower-requires : goal.put_lower-requires
put_lower-requires c = search digits-room

pub returns : goal.returns
returns c = search digits-fill
