-- `list::places::read_places` meets its contract: 12, then the records.
use Rattle.list.proofs.Standing.{standing-long}
use Rattle.list.proofs.places.read_places.Goals as goal

pub returns-then-list-gt-ITEM_LIST_BYTES : goal.returns-then-list-gt-ITEM_LIST_BYTES
returns-then-list-gt-ITEM_LIST_BYTES c = rw c.of_list.ensures (search standing-long)
