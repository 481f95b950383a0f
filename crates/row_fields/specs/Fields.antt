-- The row that begins at a place of a row list, up to its destination: the places of its fields, and what they denote.
use Rattle.std.specs.Prelude.{ℕ, suc, ◌+◌, ◌-◌, ◌≤◌, ◌≡◌, length, drop, Option as Maybe, None, Some}
use Rattle.std.proofs.Math.Option.{Option, none, some}
use Rattle.meaning.specs.Bytes.{Text}
use Rattle.meaning.specs.Limits.{largest_number}
use Rattle.meaning.specs.Number.{number_bytes, Step, took, no}
use Rattle.meaning.specs.Rows as meaning
use Rattle.parse.specs.declared.types.Side.{Side}
use Rattle.parse.specs.declared.types.Side.TheVariants.{Absent, Part, Head}
use Rattle.parse.specs.Places.{part_at, side_meant, Within}
use Rattle.row_fields.specs.declared.RowPlace.{RowPlace}
use Rattle.list.specs.declared.cursor.Record.{Record}

-- the row that places in a list denote
unfoldable pub row_meant : Text → RowPlace → meaning.Row
row_meant s r = record { item = r.item; spec = r.spec; kind = r.kind; source = part_at s r.src.at r.src.len; destination = side_meant s r.dst }

-- the place of a destination that ends at a place
abbrev pub destination_place : ℕ → Option Text → Side
destination_place end none = Absent
destination_place end (some t) = Part (end - length t) (length t)

-- the places of a row whose destination ends at a place: its source ends where the bytes of its destination begin
unfoldable pub row_place : ℕ → meaning.Row → RowPlace
row_place end r =
    record {
      item = r.item;
      spec = r.spec;
      kind = r.kind;
      src = record { at = end - length (meaning.destination_bytes r.destination) - length r.source; len = length r.source };
      dst = destination_place end r.destination;
    }

-- a row that was read, as its places in s: its destination ends where what is left begins
abbrev pub placed_front : Text → Step meaning.Row → Maybe (Record RowPlace)
placed_front s (took r rest) = Some (record { value = row_place (length s - length rest) r; next = record { at = length s - length rest } })
placed_front s (no n) = None

-- the row that begins at a place of s
unfoldable pub front_at : Text → ℕ → Maybe (Record RowPlace)
front_at s at = placed_front s (meaning.read_front (drop at s))

-- a row that a step of reading gave: its places denote it and stand within the list
pub record FrontTaken (s : Text) (w : Step meaning.Row) (row : RowPlace) (next : ℕ) : Type 0 where
  pub reads : w ≡ took (row_meant s row) (drop next s)
  pub placed : row ≡ row_place next (row_meant s row)
  pub src-within : row.src.at + row.src.len ≤ length s
  pub dst-within : Within (length s) row.dst
  pub spec-small : row.spec ≤ largest_number
  pub kind-small : row.kind ≤ largest_number
  pub within : next ≤ length s

-- what an answer tells of a step
abbrev pub FrontSays : Text → Step meaning.Row → Maybe (Record RowPlace) → Type 0
FrontSays s w (Some r) = FrontTaken s w r.value r.next.at
FrontSays s w None = w ≡ no 13

-- a step gave an absent destination: its number begins at `from` and ends at `next`
pub record AbsentTaken (s : Text) (from : ℕ) (w : Step (Option Text)) (next : ℕ) : Type 0 where
  pub reads : w ≡ took none (drop next s)
  pub spelled : from + length (number_bytes 0) ≡ next
  pub within : next ≤ length s

-- a step gave a destination of `len` bytes that begin at `start`, where its number ends, which begins at `from`
pub record PresentTaken (s : Text) (from : ℕ) (w : Step (Option Text)) (start len : ℕ) : Type 0 where
  pub reads : w ≡ took (some (part_at s start len)) (drop (start + len) s)
  pub spelled : from + length (number_bytes (suc len)) ≡ start
  pub within : start + len ≤ length s

-- a destination that was read, which ends at `next`
abbrev pub DestinationTaken : Text → ℕ → Step (Option Text) → Side → ℕ → Type 0
DestinationTaken s from w Absent next = AbsentTaken s from w next
DestinationTaken s from w (Part start len) next = PresentTaken s from w start len × (next ≡ start + len)
DestinationTaken s from w Head next = ⊥

-- what an answer tells of a step, where a destination's number begins at `from`
abbrev pub DestinationSays : Text → ℕ → Step (Option Text) → Maybe (Record Side) → Type 0
DestinationSays s from w (Some r) = DestinationTaken s from w r.value r.next.at
DestinationSays s from w None = w ≡ no 13
