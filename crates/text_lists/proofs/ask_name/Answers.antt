-- `text_lists::ask_name` meets its contract: 14, then 15, then 12.
use Rattle.text_lists.proofs.Reasons.{name-many, name-long, name-asked}
use Rattle.text_lists.proofs.ask_name.Goals as goal

pub returns-then-count-ge-ITEM_COUNT : goal.returns-then-count-ge-ITEM_COUNT
returns-then-count-ge-ITEM_COUNT c = search name-many

pub returns-then-t-gt-NAME_BYTES : goal.returns-then-t-gt-NAME_BYTES
returns-then-t-gt-NAME_BYTES c = search name-long

pub returns : goal.returns
returns c = search name-asked
