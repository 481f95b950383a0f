-- The sources of a destination, each once, and their bytes.
use Rattle.std.specs.Prelude.{List, ◌++◌, length}
use Rattle.meaning.specs.Bytes.{Text, each}
use Rattle.meaning.specs.Number.{number_bytes, text_bytes}
use Rattle.meaning.specs.Rows.{Row}
use Rattle.meaning.specs.Validation.{rows_onto, first_seen, row_source, source_bytes}

-- the rows that are the first to put theirs on d
unfoldable pub sources_on : List Row → Text → List Row
sources_on rows d = first_seen (rows_onto rows d)

-- the bytes of a row's source in a conflict
abbrev pub row_source_bytes : Row → Text
row_source_bytes r = source_bytes (row_source r)

-- the bytes of the sources of rows
abbrev pub sources_bytes : List Row → Text
sources_bytes l = each l row_source_bytes

-- a destination, how many rows there are, and their sources
unfoldable pub listed_bytes : Text → List Row → Text
listed_bytes d l = text_bytes d ++ (number_bytes (length l) ++ sources_bytes l)
