-- The most bytes of each piece of a conflict, by the limits.
use Rattle.std.specs.Prelude.{ℕ, ◌+◌, ◌*◌}
use Rattle.meaning.specs.Limits.{row_list_bytes, number_groups}

-- a destination with its length
abbrev pub conflict_destination_most : ℕ
conflict_destination_most = row_list_bytes + number_groups

-- a source: two numbers, and its text with the length
abbrev pub conflict_source_most : ℕ
conflict_source_most = row_list_bytes + 3 * number_groups

-- what one row adds to its conflict: a source, and for the first of them also the destination and how many sources there are
abbrev pub conflict_row_most : ℕ
conflict_row_most = conflict_destination_most + number_groups + conflict_source_most
