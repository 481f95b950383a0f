-- `list::items::read_items` meets its contract: 12, then the records.
use Rattle.list.proofs.ItemSteps.{items-too-long, items-are}
use Rattle.list.proofs.items.read_items.Goals as goal

pub returns-then-list-gt-ITEM_LIST_BYTES : goal.returns-then-list-gt-ITEM_LIST_BYTES
returns-then-list-gt-ITEM_LIST_BYTES c = rw c.of_list.ensures (search items-too-long)

pub returns : goal.returns
returns c = search items-are
