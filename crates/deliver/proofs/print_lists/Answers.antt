-- `deliver::print_lists` meets its contract: what the listing tells is printed, or its rows.
use native.Mathlib.Omega.{arith}
use Rattle.deliver.proofs.Lists.{refusal-prints, rows-within, rows-sized, rows-listed, rows-print}
use Rattle.deliver.proofs.print_lists.Goals as goal

pub returns-then-w-ne0 : goal.returns-then-w-ne0
returns-then-w-ne0 c = search refusal-prints

pub slice_bounds-print_rows-end : goal.slice_bounds-print_rows-end
slice_bounds-print_rows-end c = search rows-within

pub slice_bounds-print_rows-end-2 : goal.slice_bounds-print_rows-end-2
slice_bounds-print_rows-end-2 c = search rows-sized

pub print_rows-requires : goal.print_rows-requires
print_rows-requires c = (search rows-listed, omega arith)

pub returns : goal.returns
returns c = search rows-print
