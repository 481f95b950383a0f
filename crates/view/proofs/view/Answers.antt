-- `view::view` meets its contract: the part is out of the list that the field chooses, and in it.
use Rattle.view.proofs.Slices.{view-number, view-record, view-specs-room, view-specs, view-items-room, view-items}
use Rattle.view.proofs.view.Goals as goal

pub bytes-requires-then-item_field-eq0 : goal.bytes-requires-then-item_field-eq0
bytes-requires-then-item_field-eq0 c = search view-specs-room

pub returns-then-item_field-eq0 : goal.returns-then-item_field-eq0
returns-then-item_field-eq0 c = (search view-specs, search view-number, search view-record)

pub bytes-requires-2 : goal.bytes-requires-2
bytes-requires-2 c = search view-items-room

pub returns : goal.returns
returns c = (search view-items, search view-number, search view-record)
