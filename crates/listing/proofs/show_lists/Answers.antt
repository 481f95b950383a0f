-- What is printed stands in its buffer. Assumes nothing.
use Rattle.std.proofs.Common.{rules, arith}
use Rattle.deliver.proofs.Inputs.{printed-within, printed-part}
use Rattle.listing.proofs.show_lists.Goals as goal

pub slice_bounds-out-end : goal.slice_bounds-out-end
slice_bounds-out-end g c = omega (arith, printed-within _ _ _ _ _ c.print_lists-size.ensures)

pub slice_bounds-show_printed-end : goal.slice_bounds-show_printed-end
slice_bounds-show_printed-end g c = search (rules, printed-part)
