-- `prefixes_field` meets its contract: what was written into the buffer is the prefix list. Assumes nothing.
use Rattle.recorded.proofs.Buffers.{prefixes-fit, prefixes-count, prefixes-small, found-prefixes, prefixes-room}
use Rattle.recorded.proofs.answer.prefixes_field.Goals as goal

pub returns-then-w-ne0 : goal.returns-then-w-ne0
returns-then-w-ne0 c = search prefixes-room

pub slice_bounds-list_field-end : goal.slice_bounds-list_field-end
slice_bounds-list_field-end c = search prefixes-fit

pub slice_bounds-list_field-end-2 : goal.slice_bounds-list_field-end-2
slice_bounds-list_field-end-2 c = search prefixes-count

pub list_field-requires : goal.list_field-requires
list_field-requires c = search prefixes-small

pub returns : goal.returns
returns c = search found-prefixes
