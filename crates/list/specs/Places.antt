-- Where the names of an item list stand, two numbers for each.
use Rattle.std.specs.Prelude.{ℕ, zero, suc, ◌+◌, ◌*◌, ◌≤◌, ◌<◌, ◌≡◌, List, [], ◌∷◌, length, get_or, Option, None, Some, Result, Ok, Err}
use Rattle.meaning.specs.Bytes.{Text}
use Rattle.meaning.specs.Limits.{name_bytes, item_list_bytes, item_count}
use Rattle.meaning.specs.Spec.{Answer, accepted, refused}
use Rattle.meaning.specs.Lists.{read_items}
use Rattle.buffer.specs.Splice.{splice}
use Rattle.parse.specs.Places.{part_at}
use Rattle.refusal.specs.declared.Refusal.{Refusal}
use Rattle.list.specs.declared.cursor.Record.{Record}
use Rattle.list.specs.declared.stretch.Stretch.{Stretch}
use Rattle.list.specs.Cursor.{step_at}
use Rattle.list.specs.Checked.{Checked, checked}

-- room for the places of as many names as a list may have, two numbers for each
abbrev pub places_room : ℕ
places_room = 2 * item_count

-- the names that an item list holds; none where it is refused
abbrev pub names_of : Answer (List Text) → List Text
names_of (accepted names) = names
names_of (refused n r) = []

-- places hold where each of the n names of an item list begins and how many bytes it has
pub record PlacesOf (items : Text) (places : List ℕ) (n : ℕ) : Type 0 where
  pub all : n ≡ length (names_of (read_items items))
  pub few : n ≤ item_count
  pub small : length items ≤ item_list_bytes
  pub room : 2 * n ≤ length places
  pub is : (j : ℕ) → j < n → get_or (names_of (read_items items)) j [] ≡ part_at items (get_or places (2 * j) 0) (get_or places (2 * j + 1) 0)
  pub within : (j : ℕ) → j < n → get_or places (2 * j) 0 + get_or places (2 * j + 1) 0 ≤ length items
  pub short : (j : ℕ) → j < n → get_or places (2 * j + 1) 0 ≤ name_bytes

-- what is noted of a record, before what is noted from the next one on
abbrev pub noted_before : Result (Option (Record Stretch)) Refusal → (ℕ → List ℕ) → List ℕ
noted_before (Ok (Some r)) rest = r.value.at ∷ r.value.len ∷ rest r.next.at
noted_before (Ok None) rest = []
noted_before (Err e) rest = []

-- where each of k records from a place on begins and how many bytes it has, as far as there are records
abbrev pub places_from : Text → ℕ → ℕ → List ℕ
places_from items zero at = []
places_from items (suc k) at = noted_before (step_at items at) (places_from items k)

-- an item list was read, and where each name stands that was accepted was written at the start of the places: all names if the list is
-- accepted, and those before the refused record if it is not (one of the two numbers is 0); so the names of a list that is accepted
-- stand there
pub record PlacesRead (items : Text) (before after : List ℕ) (r : Checked) : Type 0 where
  pub answer : r ≡ checked (read_items items)
  pub written : after ≡ splice before 0 (places_from items (r.count + r.«record») 0)
  pub noted : r.refusal ≡ 0 → PlacesOf items after r.count
  pub size : length after ≡ length before
