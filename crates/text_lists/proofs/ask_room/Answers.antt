-- `text_lists::ask_room` meets its contract: the number and the bytes are measured, and held to what is left of the limit.
use Rattle.text_lists.proofs.Reasons.{size_fits, room-none, room-some}
use Rattle.text_lists.proofs.ask_room.Goals as goal

pub overflow_add-size : goal.overflow_add-size
overflow_add-size c = search size_fits

pub returns-then-limit-size : goal.returns-then-limit-size
returns-then-limit-size c = search room-none

pub returns : goal.returns
returns c = search room-some
