-- The printed text within its limit. Assumes nothing.
use mathlib.Core.Path.{◌≡◌}
use mathlib.Core.List.{◌++◌}
use mathlib.Core.Option.{none}
use Prim.Native.Nat.{ℕ, ◌+◌, ◌*◌, ◌<◌, ◌≤◌}
use native.Mathlib.Omega.{arith}
use borrow.Author.Tests.{le-leb, lt-leb}
use mir.Val.{Fits}
use mir.Syntax.{w64}
use lib.ListN.{length, length-append}
use Rattle.meaning.specs.Bytes.{Text}
use Rattle.meaning.specs.Limits.{program_bytes}
use Rattle.meaning.specs.Spec.{refused}
use Rattle.meaning.specs.Deliveries.{header, output}
use Rattle.buffer.specs.Splice.{splice}
use Rattle.buffer.proofs.Pairs.{pair_put, pair_end}
use Rattle.print.specs.Lines.{line_most}
use Rattle.deliver.specs.Printed.{fetch_rows_in, row_lines, printed_rows}

-- the sum fits a machine's number
pub sum_fits : (h : ℕ) → h ≡ length header → (n : ℕ) → n ≤ line_most * program_bytes → Fits w64 (h + n)
unfolding header
sum_fits h eh n g = omega arith

-- the sizes of the header and of the lines
module _ (list : Text) (h : ℕ) (eh : h ≡ length header) (n : ℕ) (en : n ≡ length (row_lines (fetch_rows_in list))) where
  -- above the limit 17 is printed
  too_long : program_bytes < h + n → printed_rows list ≡ output (refused 17 none)
  unfolding printed_rows
  too_long g = rw (lt-leb (length (header ++ row_lines (fetch_rows_in list))) program_bytes (omega (arith, length-append header (row_lines (fetch_rows_in list)))))

  pub limit-put : program_bytes < h + n → (d o : Text) → o ≡ splice d 0 (output (refused 17 none)) → o ≡ splice d 0 (printed_rows list)
  limit-put g d o e = rw (too_long g) e

  pub limit-ends : program_bytes < h + n → (r : ℕ) → r ≡ length (output (refused 17 none)) → r ≡ length (printed_rows list)
  limit-ends g r e = rw (too_long g) e

  -- at or below it all is
  module _ (g : h + n ≤ program_bytes) (d : Text) (w : program_bytes ≤ length d) where
    all-printed : printed_rows list ≡ header ++ row_lines (fetch_rows_in list)
    unfolding printed_rows
    all-printed = rw (le-leb (length (header ++ row_lines (fetch_rows_in list))) program_bytes (omega (arith, length-append header (row_lines (fetch_rows_in list)))))

    both : 0 + length (header ++ row_lines (fetch_rows_in list)) ≤ length d
    both = omega (arith, length-append header (row_lines (fetch_rows_in list)))

    module _ (o : Text) (i : ℕ) (eo : o ≡ splice d 0 header) (ei : i ≡ 0 + length header) where
      pub lines-put : (p : Text) → p ≡ splice o i (row_lines (fetch_rows_in list)) → p ≡ splice d 0 (printed_rows list)
      lines-put p e = rw all-printed (pair_put d 0 header (row_lines (fetch_rows_in list)) both o i eo ei p e)

      pub lines_end : (r : ℕ) → r ≡ i + length (row_lines (fetch_rows_in list)) → r ≡ length (printed_rows list)
      lines_end r e = rw all-printed (omega (arith, pair_end d 0 header (row_lines (fetch_rows_in list)) both o i eo ei r e))
