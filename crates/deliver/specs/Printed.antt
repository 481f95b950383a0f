-- What is printed, and where; the rows of a row list in print.
use Rattle.std.specs.Prelude.{ℕ, ◌+◌, ◌≤◌, ◌≡◌, List, ◌++◌, length}
use Rattle.meaning.specs.Bytes.{Text, each}
use Rattle.meaning.specs.Limits.{spec_count, program_bytes}
use Rattle.meaning.specs.Spec.{accepted}
use Rattle.meaning.specs.Rows as rows
use Rattle.meaning.specs.Rows.{read_rows}
use Rattle.meaning.specs.Deliveries.{row_line, header, within_limit, output}
use Rattle.buffer.specs.Splice.{splice}
use Rattle.parse.specs.Places.{Within}
use Rattle.row_fields.specs.declared.RowPlace.{RowPlace}
use Rattle.print.specs.declared.line.Row.{Row}
use Rattle.print.specs.Lines.{lent_size, row_meant}
use Rattle.row_fields.specs.Fields as fields
use Rattle.row_list.specs.Lists.{rows_in}

-- the buffers that the program lends: one for the rows, one for the printed text
pub record LongBuffers (rows out : Text) : Type 0 where
  pub rows-size : length rows ≡ program_bytes
  pub out-size : program_bytes ≤ length out

-- a text was printed at the start of a buffer, with nothing else written, and r is its length
pub record Prints (text entry exit : Text) (r : ℕ) : Type 0 where
  pub puts : exit ≡ splice entry 0 text
  pub size_is : r ≡ length text

-- the rows of a row list, under as many specs as a group can have
unfoldable pub fetch_rows_in : Text → List rows.Row
fetch_rows_in = rows_in spec_count

-- a line for each row
unfoldable pub row_lines : List rows.Row → Text
row_lines rows = each rows row_line

-- what is printed for a row list: the header and a line for each row, or 17
unfoldable pub printed_rows : Text → Text
printed_rows list = output (within_limit (header ++ row_lines (fetch_rows_in list)))

-- a row list that is accepted, and is no longer than the printed text may be
pub record Listed (list : Text) : Type 0 where
  pub short : length list ≤ program_bytes
  pub reads : read_rows spec_count list ≡ accepted (fetch_rows_in list)

-- the texts of a row stand within such a list
pub record RowStands (list : Text) (row : RowPlace) : Type 0 where
  pub short : length list ≤ program_bytes
  pub src-within : row.src.at + row.src.len ≤ length list
  pub dst-within : Within (length list) row.dst

-- a row of places as it is printed, with texts no longer than the list
pub record RowShown (list : Text) (row : RowPlace) (r : Row) : Type 0 where
  pub meant : row_meant r ≡ fields.row_meant list row
  pub source-short : length r.source.now ≤ program_bytes
  pub destination-short : lent_size r.destination ≤ program_bytes
