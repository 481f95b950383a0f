-- A quick look at a name: how many bytes it has, and eight of them.
use Rattle.std.specs.Prelude.{ℕ, zero, suc, ◌+◌, ◌-◌, ◌*◌, ◌≤◌, ◌≡◌, Bool, true, false, cond, List, eqb, leb, ltb, length, drop, get_or}
use Rattle.std.proofs.Math.Option.{none}
use Rattle.meaning.specs.Bytes.{Text, ◌and◌, ◌or◌}
use Rattle.meaning.specs.Limits.{name_bytes}
use Rattle.meaning.specs.Spec.{Spec}
use Rattle.meaning.specs.Listing.{forward_ends, reverse_ends}
use Rattle.compare.specs.Word.{number}
use Rattle.parse.specs.declared.types.Side.{Side}
use Rattle.parse.specs.declared.types.Side.TheVariants.{Absent, Part, Head}
use Rattle.parse.specs.Places.{part_at}
use Rattle.frames.specs.Frames.{longest_frame}
use Rattle.matcher.specs.declared.types.Matcher.{Matcher}
use Rattle.matcher.specs.declared.types.Needle.{Needle}
use Rattle.matcher.specs.declared.types.Needle.TheVariants as needle
use Rattle.matcher.specs.declared.types.Target.{Target}
use Rattle.matcher.specs.declared.types.Target.TheVariants as target
use Rattle.matcher.specs.Matching.{Matches}
use Rattle.filter.specs.declared.Filter.{Filter}

-- one of the six frames of a partial name adds so many bytes
unfoldable pub frame_adds : ℕ → Bool
frame_adds d = eqb d 0 or eqb d 5 or eqb d 10 or eqb d 11 or eqb d 13 or eqb d 18

-- a name of a size that passes is looked at: eight of its bytes are the filter's, or it has as many as a candidate
unfoldable pub looks_right : Filter → Text → Bool
looks_right f name = cond f.worded (eqb (number 0 8 (drop f.from name)) f.word) (cond f.framed (frame_adds (length name - f.least)) true)

-- a name passes a filter
unfoldable pub passes : Filter → Text → Bool
passes f name = leb f.least (length name) and leb (length name) f.most and looks_right f name

-- the eight bytes that a filter looks at stand in each name that is long enough
abbrev pub FilterWithin : Filter → Type 0
FilterWithin f = f.worded ≡ true → f.from + 8 ≤ f.least

-- name number k of an item list, by the places where the names stand, two numbers for each
abbrev pub name_at : Text → List ℕ → ℕ → Text
name_at items places k = part_at items (get_or places (2 * k) 0) (get_or places (2 * k + 1) 0)

-- ---- the names of a list

-- the first of k numbers from i on that passes a test; the number after them where none does
abbrev pub first_from : (ℕ → Bool) → ℕ → ℕ → ℕ
first_from test i zero = i
first_from test i (suc k) = cond (test i) i (first_from test (suc i) k)

-- the number, `from` or after it, of the first of n names that passes a filter; n where none does
unfoldable pub next_passing : Filter → Text → List ℕ → ℕ → ℕ → ℕ
next_passing f items places n from = first_from (λ k. passes f (name_at items places k)) from (n - from)

-- ---- the filters

-- names of so many bytes, and of a candidate's size, if `framed`
abbrev pub size_filter : ℕ → ℕ → Bool → Filter
size_filter least most framed = record { least = least; most = most; worded = false; from = 0; word = 0; framed = framed }

-- names of so many bytes which have, where the n bytes of s that begin at a place have eight or more, the last eight of them
unfoldable pub alike : Text → ℕ → ℕ → ℕ → ℕ → Filter
alike s at n least most =
    cond (ltb n 8) (size_filter least most false)
    (record { least = least; most = most; worded = true; from = n - 8; word = number 0 8 (drop (at + (n - 8)) s); framed = false })

-- nothing
abbrev pub no_filter : Filter
no_filter = size_filter 1 0 false

-- what is a side as a whole
abbrev pub whole_filter : Text → Side → Filter
whole_filter s Absent = size_filter 0 name_bytes false
whole_filter s (Part at n) = alike s at n n n
whole_filter s Head = size_filter 4 4 false

-- what begins with a side up to its star, and is not shorter than the rest of it
abbrev pub start_filter : Text → Side → ℕ → Filter
start_filter s Absent star = size_filter 0 name_bytes false
start_filter s (Part at n) star = alike s at star (n - 1) name_bytes
start_filter s Head star = size_filter 0 name_bytes false

-- what may be a candidate of a side
abbrev pub part_filter : Side → Filter
part_filter Absent = size_filter 0 name_bytes false
part_filter (Part at n) = size_filter n (n + longest_frame) true
part_filter Head = size_filter 4 (4 + longest_frame) true

-- by what a source looks for
abbrev pub needle_filter : Text → Side → Needle → Filter
needle_filter s side needle.Absent = no_filter
needle_filter s side (needle.Glob star) = start_filter s side star
needle_filter s side needle.FullName = whole_filter s side
needle_filter s side needle.Object = no_filter
needle_filter s side needle.PartialName = part_filter side

-- by what a destination is
abbrev pub target_filter : Text → Side → Target → Filter
target_filter s side target.Absent = no_filter
target_filter s side (target.Pattern star) = start_filter s side star
target_filter s side (target.Literal l) = whole_filter s side

-- the filter of a spec's forward rows, and of its reverse rows
unfoldable pub forward_filter : Text → Matcher → Filter
forward_filter specs m = needle_filter specs m.src m.lhs

unfoldable pub reverse_filter : Text → Matcher → Filter
reverse_filter specs m = target_filter specs m.dst m.rhs

-- what a filter stops has no forward row under the spec of a matcher
pub record StopsForward (specs : Text) (m : Matcher) (f : Filter) : Type 0 where
  pub stops : (name : Text) → length name ≤ name_bytes → passes f name ≡ false → (s : Spec) → Matches specs s m → forward_ends s name ≡ none
  pub within : FilterWithin f

-- nor a reverse row
pub record StopsReverse (specs : Text) (m : Matcher) (f : Filter) : Type 0 where
  pub stops : (name : Text) → length name ≤ name_bytes → passes f name ≡ false → (s : Spec) → Matches specs s m → reverse_ends s name ≡ none
  pub within : FilterWithin f
