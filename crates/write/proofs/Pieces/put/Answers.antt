-- `write::Pieces::put` meets its contract: each piece is written right after the one before it.
use borrow.Author.Rules.{rules}
use Rattle.write.proofs.Texts.{dst-in, sign-room, src-room, none-written, colon-room, side-room, some-written}
use Rattle.write.proofs.Pieces.put.Goals as goal

pub put_sign-i-requires : goal.put_sign-i-requires
put_sign-i-requires c = search sign-room

pub put_side-j-requires : goal.put_side-j-requires
put_side-j-requires c = (search rules, search src-room)

pub put_byte-k-requires : goal.put_byte-k-requires
put_byte-k-requires c = search colon-room

pub put_side-requires : goal.put_side-requires
put_side-requires c = (search dst-in, search side-room)

pub returns-in-Some : goal.returns-in-Some
returns-in-Some c = search some-written

pub returns-in_default : goal.returns-in_default
returns-in_default c = search none-written
