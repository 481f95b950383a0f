-- The bytes of the conflicts of rows, a buffer after a text was written, and where a destination stands.
use Rattle.std.specs.Prelude.{ℕ, ◌+◌, ◌≤◌, cond, List, leb, length}
use Rattle.meaning.specs.Bytes.{Text, each}
use Rattle.meaning.specs.Rows.{Row}
use Rattle.meaning.specs.Validation.{conflicts, conflict_bytes}
use Rattle.buffer.specs.Splice.{splice}
use Rattle.parse.specs.declared.types.Side.{Side}
use Rattle.parse.specs.declared.types.Side.TheVariants.{Absent, Part, Head}

-- the bytes of the conflicts of rows
unfoldable pub conflicts_bytes : List Row → Text
conflicts_bytes rows = each (conflicts rows) conflict_bytes

-- a buffer after a text was written at its start, if it has room for all of it
unfoldable pub put_if_room : Text → Text → Text
put_if_room d t = cond (leb (length t) (length d)) (splice d 0 t) d

-- a destination stands within so many bytes, or is absent; no row's destination is the supplied `HEAD`
abbrev pub InList : ℕ → Side → Type 0
InList len Absent = Unit {0}
InList len (Part at n) = at + n ≤ len
InList len Head = ⊥
