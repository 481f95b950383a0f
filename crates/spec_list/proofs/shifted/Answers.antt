-- `spec_list::shifted` meets its contract: both sides move.
use Rattle.spec_list.proofs.Shifts.{both-shifted}
use Rattle.spec_list.proofs.shifted.Goals as goal

pub returns : goal.returns
returns c = search both-shifted
