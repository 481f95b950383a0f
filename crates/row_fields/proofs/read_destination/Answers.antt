-- `row_fields::read_destination` meets its contract: the number is read, or is malformed, and then the destination.
use Rattle.row_fields.proofs.Fields.{number-within, number-room, destination-next, destination-stop}
use Rattle.row_fields.proofs.read_destination.Goals as goal

pub destination_after-requires : goal.destination_after-requires
destination_after-requires c = (search (number-within, c.in_ok-n.was), search (number-room, c.in_ok-n.was))

pub returns : goal.returns
returns c = search (destination-next, c.in_ok-n.was)

pub returns-in_err-n : goal.returns-in_err-n
returns-in_err-n c = rw c.from_residual.ensures (search (destination-stop, c.in_err-n.was))
