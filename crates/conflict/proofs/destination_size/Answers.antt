-- `conflict::destination_size` meets its contract: the bytes of its length and its own.
use Rattle.conflict.proofs.Shares.{destination-fits, destination-small, destination-size}
use Rattle.conflict.proofs.destination_size.Goals as goal

pub overflow_add-result : goal.overflow_add-result
overflow_add-result c = search destination-fits

pub returns : goal.returns
returns c = (search destination-size, search destination-small)
