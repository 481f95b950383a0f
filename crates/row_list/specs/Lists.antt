-- The rows of a row list that was read.
use Rattle.std.specs.Prelude.{ℕ, ◌≡◌, List, []}
use Rattle.meaning.specs.Bytes.{Text}
use Rattle.meaning.specs.Spec.{Answer, accepted, refused}
use Rattle.meaning.specs.Rows.{Row, read_rows}

-- the rows that an answer accepts; none where it refuses
abbrev pub rows_of : Answer (List Row) → List Row
rows_of (accepted l) = l
rows_of (refused n r) = []

-- the rows of a row list under so many specs
abbrev pub rows_in : ℕ → Text → List Row
rows_in specs s = rows_of (read_rows specs s)

-- the row list was read
pub record RowsRead (specs : ℕ) (s : Text) : Type 0 where
  pub list : List Row
  pub reads : read_rows specs s ≡ accepted list
