-- An index: the places of the rows that have a destination.
use Rattle.std.specs.Prelude.{ℕ, ◌+◌, ◌≡◌, Bool, true, List, [], ◌∷◌, set}
use Rattle.meaning.specs.Bytes.{Text, keep, present}
use Rattle.meaning.specs.Rows.{Row}
use Rattle.parse.specs.declared.types.Side.{Side}
use Rattle.parse.specs.declared.types.Side.TheVariants.{Absent, Part, Head}
use Rattle.order.specs.Sorting.{Increasing}
use Rattle.keys.specs.Keys.{row_at, destination_key}
use Rattle.order.specs.Keys.{sort_places}
use Rattle.row_list.specs.Lists.{rows_in}
use Rattle.conflict.specs.Shared.{rows_at}

-- a row has a destination
abbrev pub has_destination : Row → Bool
has_destination r = present r.destination

-- the rows at all of the places have one
abbrev pub Given : Text → List ℕ → Type 0
Given s [] = Unit {0}
Given s (p ∷ l) = (has_destination (row_at s p) ≡ true) × Given s l

-- places of a row list: of all rows that have a destination, in place order
pub record Indexed (specs : ℕ) (s : Text) (l : List ℕ) : Type 0 where
  pub rows_are : rows_at s l ≡ keep has_destination (rows_in specs s)
  pub given : Given s l
  pub ascends : Increasing l

-- the same, sorted by destination
pub record SortedIndex (specs : ℕ) (s : Text) (d : List ℕ) : Type 0 where
  pub places : List ℕ
  pub indexed : Indexed specs s places
  pub sorted : d ≡ sort_places destination_key s places

-- a place was stored after n others, if the side is there
abbrev pub Stored : List ℕ → ℕ → ℕ → Side → List ℕ → ℕ → Type 0
Stored d n at Absent e r = (e ≡ d) × (r ≡ n)
Stored d n at (Part a b) e r = (e ≡ set d n at) × (r ≡ n + 1)
Stored d n at Head e r = ⊥
