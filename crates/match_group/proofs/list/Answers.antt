-- The specs are read, and their group is listed.
use Rattle.match_group.proofs.Entry.{specs-refused, specs-grouped, group-listed}
use borrow.Author.Rules.{rules}
use Rattle.match_group.proofs.list.Goals as goal

pub returns-in-Err : goal.returns-in-Err
returns-in-Err g c = search specs-refused

pub list_few-requires : goal.list_few-requires
list_few-requires g c = (search specs-grouped, search rules)

pub returns-then-g-le-FEW : goal.returns-then-g-le-FEW
returns-then-g-le-FEW g c = search group-listed

pub list_many-requires : goal.list_many-requires
list_many-requires g c = search specs-grouped

pub returns-else-g-le-FEW : goal.returns-else-g-le-FEW
returns-else-g-le-FEW g c = search group-listed
