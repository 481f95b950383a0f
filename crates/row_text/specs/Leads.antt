-- How many bytes a text has at most.
use Rattle.std.specs.Prelude.{ℕ, ◌+◌, ◌*◌}
use Rattle.meaning.specs.Limits.{spec_list_bytes, name_bytes}

-- a text that a match makes has at most so many bytes: two parts of a spec list and one of a name
abbrev pub row_text_most : ℕ
row_text_most = 2 * spec_list_bytes + name_bytes
