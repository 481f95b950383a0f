-- What stands at a place of a row list: a row as places.
use Rattle.std.specs.Prelude.{◌⊎◌, ℕ, ◌+◌, ◌-◌, ◌<◌, ◌≤◌, ◌≡◌, true, cond, ltb, length, drop, Option, None, Some, Result, Ok, Err}
use Rattle.meaning.specs.Bytes.{Text}
use Rattle.meaning.specs.Number.{Step, took, no}
use Rattle.meaning.specs.Rows as meaning
use Rattle.meaning.specs.Limits.{largest_number}
use Rattle.parse.specs.Places.{Within}
use Rattle.row_fields.specs.declared.RowPlace.{RowPlace}
use Rattle.row_fields.specs.Fields.{row_meant, row_place}
use Rattle.refusal.specs.declared.Refusal.{Refusal}
use Rattle.refusal.specs.Numbers.{number_of, question}
use Rattle.list.specs.declared.cursor.Record.{Record}

-- a row that was read, as its places in s: it ends where what is left begins
abbrev pub placed_row : Text → Step meaning.Row → Result (Option (Record RowPlace)) Refusal
placed_row s (took r rest) = Ok (Some (record { value = row_place (length s - length rest) r; next = record { at = length s - length rest } }))
placed_row s (no n) = Err (question n)

-- the row at a place of a list under so many specs; none at or past its end
unfoldable pub row_step_at : ℕ → Text → ℕ → Result (Option (Record RowPlace)) Refusal
row_step_at specs s at = cond (ltb at (length s)) (placed_row s (meaning.row_record specs 0 (drop at s))) (Ok None)

-- a row stands at a place of a list, as places in it, and the next row at a later place; its number in the list does not matter
pub record RowTaken (specs : ℕ) (s : Text) (at : ℕ) (row : RowPlace) (next : ℕ) : Type 0 where
  pub here : at < length s
  pub reads : (j : ℕ) → meaning.row_record specs j (drop at s) ≡ took (row_meant s row) (drop next s)
  pub src-within : row.src.at + row.src.len ≤ length s
  pub dst-within : Within (length s) row.dst
  pub spec-small : row.spec ≤ largest_number
  pub placed : row ≡ row_place next (row_meant s row)
  pub passes : meaning.row_passes specs (row_meant s row) ≡ true
  pub on : at < next
  pub within : next ≤ length s

-- the row at a place of a list is refused
pub record RowTurned (specs : ℕ) (s : Text) (at n : ℕ) : Type 0 where
  pub here : at < length s
  pub reads : (j : ℕ) → meaning.row_record specs j (drop at s) ≡ no n

-- what is told of the row at a place of a list
abbrev pub RowSays : ℕ → Text → ℕ → Result (Option (Record RowPlace)) Refusal → Type 0
RowSays specs s at (Ok (Some r)) = RowTaken specs s at r.value r.next.at
RowSays specs s at (Ok None) = length s ≤ at
RowSays specs s at (Err e) = RowTurned specs s at (number_of e)

-- the row that an answer holds, if any
abbrev pub found_row : Result (Option (Record RowPlace)) Refusal → Option (Record RowPlace)
found_row (Ok o) = o
found_row (Err e) = None

-- what is told of the row at a place of a list that was read
abbrev pub RowHere : ℕ → Text → ℕ → Option (Record RowPlace) → Type 0
RowHere specs s at (Some r) = RowTaken specs s at r.value r.next.at
RowHere specs s at None = (length s ≤ at) ⊎ ((n : ℕ) × RowTurned specs s at n)
