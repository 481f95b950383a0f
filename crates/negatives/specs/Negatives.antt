-- A negative spec as places in a spec list, the names that it matches, and a table of numbers that holds the negatives of a group.
use Rattle.std.specs.Prelude.{ℕ, zero, suc, ◌+◌, ◌*◌, ◌≤◌, ◌<◌, ◌≡◌, Bool, false, List, length, take, drop, get_or}
use Rattle.std.proofs.Math.Option.{Option}
use Rattle.meaning.specs.Bytes.{Text, bytes, ◌or◌, any, same, present}
use Rattle.meaning.specs.Limits.{spec_count}
use Rattle.meaning.specs.Spec.{Spec}
use Rattle.meaning.specs.Match.{capture}
use Rattle.meaning.specs.Listing.{excludes}
use Rattle.parse.specs.Places.{part_at}
use Rattle.negatives.specs.declared.Negative.{Negative}
use Rattle.negatives.specs.declared.Negative.TheVariants.{Nothing, Head, Literal, Glob}

-- what a name has in place of the star of t, which stands at a place
abbrev pub in_place_of_star : Text → ℕ → Text → Option Text
in_place_of_star t star name = capture (take star t) (drop (suc star) t) name

-- a negative whose places stand in s matches a name
abbrev pub negative_matches : Text → Text → Negative → Bool
negative_matches s name Nothing = false
negative_matches s name Head = same (bytes "HEAD") name
negative_matches s name (Literal at len) = same (part_at s at len) name
negative_matches s name (Glob at len star) = present (in_place_of_star (part_at s at len) star name)

-- a negative stands within so many bytes, and its star within its text
abbrev pub NegativeWithin : ℕ → Negative → Type 0
NegativeWithin n Nothing = Unit {0}
NegativeWithin n Head = Unit {0}
NegativeWithin n (Literal at len) = at + len ≤ n
NegativeWithin n (Glob at len star) = (at + len ≤ n) × (star < len)

-- how many numbers a negative has in a table
abbrev pub negative_numbers : ℕ
negative_numbers = 4

-- the negative that four numbers tell
abbrev pub negative_from : ℕ → ℕ → ℕ → ℕ → Negative
negative_from zero at len star = Nothing
negative_from (suc zero) at len star = Head
negative_from (suc (suc zero)) at len star = Literal at len
negative_from (suc (suc (suc more))) at len star = Glob at len star

-- negative number k of a table
unfoldable pub negative_at : List ℕ → ℕ → Negative
negative_at t k = negative_from (get_or t (negative_numbers * k) 0) (get_or t (negative_numbers * k + 1) 0) (get_or t (negative_numbers * k + 2) 0) (get_or t (negative_numbers * k + 3) 0)

-- one of the first `count` negatives of a table matches a name
abbrev pub excluded_by : Text → List ℕ → ℕ → Text → Bool
excluded_by s t zero name = false
excluded_by s t (suc k) name = excluded_by s t k name or negative_matches s name (negative_at t k)

-- a table holds `count` negatives, which exclude what those of a group do
pub record Negatives (s : Text) (group : List Spec) (t : List ℕ) (count : ℕ) : Type 0 where
  pub room : negative_numbers * count ≤ length t
  pub within : (k : ℕ) → k < count → NegativeWithin (length s) (negative_at t k)
  pub decides : (name : Text) → excluded_by s t count name ≡ any (excludes name) group
  pub few : count ≤ spec_count
