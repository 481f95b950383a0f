-- A row read on after each of its parts, and its destination as a text.
use Rattle.std.specs.Prelude.{ℕ, ◌+◌, ◌≤◌, ◌≡◌, [], length}
use Rattle.meaning.specs.Bytes.{Text, or_empty}
use Rattle.meaning.specs.Number.{Step, took, no, Reader, ◌>>=◌, give, read_number, read_text}
use Rattle.meaning.specs.Rows.{Row, read_destination}
use Rattle.parse.specs.Places.{part_at}
use Rattle.list.specs.declared.stretch.Stretch.{Stretch}

-- after its source
unfoldable pub after_source : ℕ → ℕ → ℕ → Text → Reader Row
after_source i sp k src = read_destination >>= λ dst. give (record { item = i; spec = sp; kind = k; source = src; destination = dst })

-- after its kind
unfoldable pub after_kind : ℕ → ℕ → ℕ → Reader Row
after_kind i sp k = read_text >>= after_source i sp k

-- after its spec number
unfoldable pub after_spec : ℕ → ℕ → Reader Row
after_spec i sp = read_number >>= after_kind i sp

-- after its item field
unfoldable pub after_item : ℕ → Reader Row
after_item i = read_number >>= after_spec i

-- the destination of a row that was read; nothing where it was refused, or where there is none
abbrev pub destination_in : Step Row → Text
destination_in (took r rest) = or_empty r.destination
destination_in (no n) = []

-- a stretch of s is a text, and stands within s
pub record StretchSpells (s t : Text) (d : Stretch) : Type 0 where
  pub is : part_at s d.at d.len ≡ t
  pub within : d.at + d.len ≤ length s
