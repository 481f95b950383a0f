-- The bytes that one spec gives for one name, and as an object source.
use Rattle.std.specs.Prelude as prelude
use Rattle.std.specs.Prelude.{ℕ, zero, suc, Bool, true, false, cond, List, [], ◌∷◌}
use Rattle.std.proofs.Math.Option.{Option, none, some}
use Rattle.meaning.specs.Bytes.{Text, each}
use Rattle.meaning.specs.Spec.{Spec, Mode}
use Rattle.meaning.specs.Rows as meaning
use Rattle.meaning.specs.Rows.{row_bytes, row_list_of}
use Rattle.meaning.specs.Listing.{Ends, forward_ends, reverse_ends, name_row, object_rows}
use Rattle.parse.specs.Places.{side_meant}
use Rattle.glob.specs.declared.Captured.{Captured}
use Rattle.matcher.specs.declared.types.Matcher.{Matcher}
use Rattle.matcher.specs.declared.types.Ends as places
use Rattle.matcher.specs.Matching.{object_ends}
use Rattle.match_one.specs.Answers.{forward_made, reverse_made}
use Rattle.row.specs.declared.Kind.{Kind}
use Rattle.row.specs.declared.Kind.TheVariants as Kind-is
use Rattle.row.specs.declared.Numbers.{Numbers}
use Rattle.row.specs.Rows.{kind_number}

-- the spec that a matcher stands for: no sign matters to it
abbrev pub matcher_spec : Text → Matcher → Spec
matcher_spec specs m = record { mode = Mode.Normal; source = side_meant specs m.src; destination = side_meant specs m.dst }

-- the ends that a spec makes of a name, forward or in reverse
abbrev pub ends_in : Bool → Spec → Text → Option Ends
ends_in true = reverse_ends
ends_in false = forward_ends

-- those that a matcher makes of what it caught of a name, if it did
abbrev pub made_in : Bool → Matcher → prelude.Option Captured → prelude.Option places.Ends
made_in true = reverse_made
made_in false = forward_made

-- the bytes of a row of a name, unless its source is gone
abbrev pub row_unless : (Text → Bool) → meaning.Row → Text
row_unless gone r = cond (gone r.source) [] (row_bytes r)

-- the bytes of item j under spec i: its row, if it has one
unfoldable pub item_bytes : Bool → (Text → Bool) → ℕ → ℕ → Text → Spec → Text
item_bytes reverse gone i j name s = each (name_row i j (ends_in reverse s name)) (row_unless gone)

-- those of spec i as an object source
unfoldable pub object_bytes : ℕ → Spec → Text
object_bytes i s = row_list_of (object_rows (i, s))

-- the source kind of a row by its item field: 0 stands for no item, and the source is then an object
abbrev pub kind_at : ℕ → Kind
kind_at zero = Kind-is.Object
kind_at (suc j) = Kind-is.Name

-- its number
abbrev pub field_kind : ℕ → ℕ
field_kind field = kind_number (kind_at field)

-- the numbers of the row of spec i that has this item field
abbrev pub field_numbers : ℕ → ℕ → Numbers
field_numbers i field = record { item = field; spec = i; kind = kind_at field }

-- the ends of the row of spec i that has this item field
abbrev pub field_ends : Bool → Spec → ℕ → Text → Option Ends
field_ends back s zero name = object_ends s
field_ends back s (suc j) name = ends_in back s name

-- the row of such ends
abbrev pub field_row : ℕ → ℕ → Ends → meaning.Row
field_row i field e = record { item = field; spec = i; kind = field_kind field; source = e.source; destination = e.destination }

-- that row, if there are ends
abbrev pub given_row : ℕ → ℕ → Option Ends → List meaning.Row
given_row i field none = []
given_row i field (some e) = field_row i field e ∷ []

-- the bytes of that row, if there is one, whatever negatives remove
unfoldable pub field_bytes : Bool → ℕ → ℕ → Text → Spec → Text
field_bytes back i field name s = each (given_row i field (field_ends back s field name)) row_bytes
