-- `deliver::rows::print_rows` meets its contract: above the limit 17, else the header and then the lines.
use Rattle.deliver.proofs.Limits.{sum_fits, limit-put, limit-ends, lines-put, lines_end}
use Rattle.deliver.proofs.rows.print_rows.Goals as goal

pub overflow_add-size : goal.overflow_add-size
overflow_add-size c = search sum_fits

pub returns-then-size-gt-PROGRAM_BYTES : goal.returns-then-size-gt-PROGRAM_BYTES
returns-then-size-gt-PROGRAM_BYTES c = record { puts = search limit-put; size_is = search limit-ends }

pub returns : goal.returns
returns c = record { puts = search lines-put; size_is = search lines_end }
