-- How many rows the largest index has room for: those of every list.
use Rattle.std.specs.Prelude.{ℕ, ◌+◌, ◌/◌}
use Rattle.meaning.specs.Limits.{row_list_bytes}

-- the fewest bytes of a row: five numbers of one byte
abbrev pub row_least : ℕ
row_least = 5

abbrev pub many_rows : ℕ
many_rows = row_list_bytes / row_least + 1
