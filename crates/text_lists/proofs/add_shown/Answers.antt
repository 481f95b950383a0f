-- `text_lists::add_shown` meets its contract: the name that was decoded is added as a name is.
use Rattle.text_lists.proofs.Growth.{shown-room, shown-added, shown-refused}
use borrow.Author.Rules.{rules}
use Rattle.text_lists.proofs.add_shown.Goals as goal

pub add_first-requires : goal.add_first-requires
add_first-requires c = (search shown-room, search rules, search rules)

pub returns-in-Ok : goal.returns-in-Ok
returns-in-Ok c = search shown-added

pub returns-in-Err : goal.returns-in-Err
returns-in-Err c = search shown-refused
