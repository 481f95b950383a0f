-- `canonical_field` meets its contract: what was written into the buffer is the canonical text; one that does not fit stands in no record. Assumes nothing.
use Rattle.number.proofs.Round.{octets-of}
use Rattle.recorded.proofs.Buffers.{canonical-fits, canonical-counts, found-canonical, canonical-long}
use Rattle.recorded.proofs.answer.canonical_field.Goals as goal

pub returns-then-w-ne0 : goal.returns-then-w-ne0
returns-then-w-ne0 c = let o = octets-of c.args.told.now c.type_inv.told in search canonical-long

pub slice_bounds-text_field-end : goal.slice_bounds-text_field-end
slice_bounds-text_field-end c = search canonical-fits

pub slice_bounds-text_field-end-2 : goal.slice_bounds-text_field-end-2
slice_bounds-text_field-end-2 c = search canonical-counts

pub returns : goal.returns
returns c = search found-canonical
