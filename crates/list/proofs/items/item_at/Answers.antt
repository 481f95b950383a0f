-- `list::items::item_at` meets its contract: the end, then 14, then 13, then 15.
use Rattle.std.proofs.lemmas.Result.{err_from_is_err_and}
use Rattle.list.proofs.ItemSteps.{item-past, item-full, item-none, item-turned, item-named-long, item-named}
use Rattle.list.proofs.items.item_at.Goals as goal

pub returns-then-list-c : goal.returns-then-list-c
returns-then-list-c c = search item-past

pub returns-then-count-ge-ITEM_COUNT : goal.returns-then-count-ge-ITEM_COUNT
returns-then-count-ge-ITEM_COUNT c = search item-full

pub returns-in_err-r : goal.returns-in_err-r
returns-in_err-r c = let p = err_from_is_err_and c.from_residual.result c.from_residual.ensures.1 in rw (p.1, p.2) (search (item-turned, c.in_err-r.was))

pub returns-in_default : goal.returns-in_default
returns-in_default c = search (item-none, c.in_ok-r.was)

pub returns-then-r-gt-NAME_BYTES : goal.returns-then-r-gt-NAME_BYTES
returns-then-r-gt-NAME_BYTES c = search (item-named-long, c.in_ok-r.was)

pub returns : goal.returns
returns c = search (item-named, c.in_ok-r.was)
