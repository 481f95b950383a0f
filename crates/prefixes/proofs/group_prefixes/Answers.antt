-- A refusal is told, and an accepted list gives its group. Assumes nothing.
use Rattle.prefixes.proofs.Groups.{group-refused, group-count, group-within, group-short, group-accepted}
use Rattle.prefixes.proofs.group_prefixes.Goals as goal

pub returns-in-Err : goal.returns-in-Err
returns-in-Err c = search group-refused

pub list_group-requires : goal.list_group-requires
list_group-requires c = (search group-count, search group-within, search group-short)

pub returns-in-Ok : goal.returns-in-Ok
returns-in-Ok c = search group-accepted
