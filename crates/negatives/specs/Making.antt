-- How a table of negatives is made: what a spec looks for, and one negative put after the others.
use Rattle.std.specs.Prelude.{ℕ, ◌+◌, ◌*◌, ◌≤◌, ◌<◌, ◌≡◌, Bool, true, false, cond, List, [], ◌∷◌, length}
use Rattle.meaning.specs.Bytes.{Text, star, ◌or◌, agree}
use Rattle.meaning.specs.Spec.{Spec, is_negative, starred}
use Rattle.meaning.specs.Listing.{excludes}
use Rattle.text.specs.Place.{first_at}
use Rattle.buffer.specs.Splice.{splice}
use Rattle.parse.specs.declared.types.Side.{Side}
use Rattle.parse.specs.declared.types.Side.TheVariants as side
use Rattle.parse.specs.declared.types.RefSpec.{RefSpec}
use Rattle.parse.specs.Places.{mode_meant, part_at, is_present}
use Rattle.negatives.specs.declared.Negative.{Negative}
use Rattle.negatives.specs.declared.Negative.TheVariants.{Nothing, Head, Literal, Glob}
use Rattle.negatives.specs.Negatives.{negative_numbers, NegativeWithin, negative_at, excluded_by}

-- what the text of len bytes that begin at a place looks for: a pattern by the place of its first star, or a literal
unfoldable pub text_negative : Text → ℕ → ℕ → Negative
text_negative s at len = cond (starred (part_at s at len)) (Glob at len (first_at star (part_at s at len))) (Literal at len)

-- what a side looks for
abbrev pub side_negative : Text → Side → Negative
side_negative s side.Absent = Nothing
side_negative s (side.Part at len) = text_negative s at len
side_negative s side.Head = Head

-- it is a pattern
abbrev pub is_glob : Negative → Bool
is_glob Nothing = false
is_glob Head = false
is_glob (Literal at len) = false
is_glob (Glob at len star) = true

-- the source n beside a destination d that is there: both are patterns or neither, else nothing is matched
unfoldable pub besides : Negative → Negative → Negative
besides n d = cond (agree (is_glob n) (is_glob d)) n Nothing

-- what a spec looks for, taken as a negative; no accepted one has a destination (`promises`, AcceptedSpec)
unfoldable pub negative_of : Text → RefSpec → Negative
negative_of s r = cond (is_present r.dst) (besides (side_negative s r.src) (side_negative s r.dst)) (side_negative s r.src)

-- the four numbers of a negative
abbrev pub negative_four : Negative → List ℕ
negative_four Nothing = 0 ∷ 0 ∷ 0 ∷ 0 ∷ []
negative_four Head = 1 ∷ 0 ∷ 0 ∷ 0 ∷ []
negative_four (Literal at len) = 2 ∷ at ∷ len ∷ 0 ∷ []
negative_four (Glob at len star) = 3 ∷ at ∷ len ∷ star ∷ []

-- a table after a spec was added to its first k negatives, if it is one
unfoldable pub added_to : Text → RefSpec → List ℕ → ℕ → List ℕ
added_to s r before k = cond (is_negative (mode_meant r.mode)) (splice before (negative_numbers * k) (negative_four (negative_of s r))) before

-- a negative n is put into a table as number k: those before it are kept
pub record PutNegative (before : List ℕ) (k : ℕ) (n : Negative) (after : List ℕ) : Type 0 where
  pub size : length after ≡ length before
  pub kept : (j : ℕ) → j < k → negative_at after j ≡ negative_at before j
  pub there : negative_at after k ≡ n

-- a spec is added to the first k negatives of a table, which are then so many
pub record Added (s : Text) (spec : Spec) (before : List ℕ) (k : ℕ) (after : List ℕ) (count : ℕ) : Type 0 where
  pub size : length after ≡ length before
  pub one : count ≤ k + 1
  pub within : ((j : ℕ) → j < k → NegativeWithin (length s) (negative_at before j)) → (j : ℕ) → j < count → NegativeWithin (length s) (negative_at after j)
  pub decides : (name : Text) → excluded_by s after count name ≡ (excluded_by s before k name or excludes name spec)
