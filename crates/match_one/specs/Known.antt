-- The ends of a row of a name that is known to be matched, from how many bytes it has.
use Rattle.std.specs.Prelude as prelude
use Rattle.std.specs.Prelude.{ℕ, ◌+◌, ◌-◌, ◌≡◌, cond, ltb, length}
use Rattle.std.proofs.Math.Option.{some}
use Rattle.meaning.specs.Bytes.{Text}
use Rattle.meaning.specs.Spec.{Spec}
use Rattle.meaning.specs.Listing as listing
use Rattle.meaning.specs.Listing.{forward_ends, reverse_ends}
use Rattle.parse.specs.declared.types.Side.{Side}
use Rattle.parse.specs.declared.types.Side.TheVariants as side
use Rattle.matcher.specs.declared.types.Needle.{Needle}
use Rattle.matcher.specs.declared.types.Needle.TheVariants as needle
use Rattle.matcher.specs.declared.types.Lead.TheVariants as lead
use Rattle.matcher.specs.declared.types.Target.{Target}
use Rattle.matcher.specs.declared.types.Target.TheVariants as target
use Rattle.matcher.specs.declared.types.Matcher.{Matcher}
use Rattle.matcher.specs.declared.types.RowText.TheVariants as row-text
use Rattle.matcher.specs.declared.types.Ends.{Ends}
use Rattle.matcher.specs.Matching.{ends_meant, EndsWithin, Matches, object_ends}
use Rattle.match_one.specs.Answers.{row_of, filled_place, whole_places, caught_places, digits_places}

-- how many bytes a name of n bytes has in place of the star of a side that it is known to match; only a part of the spec list has a star
abbrev pub caught_len : Side → ℕ → prelude.Option ℕ
caught_len side.Absent n = prelude.None
caught_len (side.Part at size) n = cond (ltb (n + 1) size) prelude.None (prelude.Some (n + 1 - size))
caught_len side.Head n = prelude.None

-- the ends of a name of n bytes, unless a pattern of `size` bytes has more without its star
unfoldable pub if_long_enough : ℕ → ℕ → prelude.Option Ends → prelude.Option Ends
if_long_enough n size e = cond (ltb (n + 1) size) prelude.None e

-- those of a name of n bytes that a source with a star matches: what is more than the pattern has is caught
abbrev pub known_caught : Side → ℕ → Side → Target → ℕ → prelude.Option Ends
known_caught side.Absent star dst rhs n = prelude.None
known_caught (side.Part at size) star dst rhs n = if_long_enough n size (caught_places dst rhs star (n + 1 - size))
known_caught side.Head star dst rhs n = prelude.None

-- those of a name of n bytes that a spec matches; a source that is an object id has its own row
abbrev pub known_places : Side → Needle → Side → Target → ℕ → prelude.Option Ends
known_places src needle.Absent dst rhs n = prelude.None
known_places src (needle.Glob star) dst rhs n = known_caught src star dst rhs n
known_places src needle.FullName dst rhs n = whole_places dst rhs
known_places src needle.Object dst rhs n = digits_places src dst rhs
known_places src needle.PartialName dst rhs n = whole_places dst rhs

-- in reverse, where both sides have a star
abbrev pub known_filled : Side → ℕ → Side → ℕ → ℕ → prelude.Option Ends
known_filled src star side.Absent second n = prelude.None
known_filled src star (side.Part at size) second n = if_long_enough n size (row_of (filled_place src star second (n + 1 - size)) row-text.Name)
known_filled src star side.Head second n = prelude.None

-- where the source has one
abbrev pub known_glob_back : Side → ℕ → Side → Target → ℕ → prelude.Option Ends
known_glob_back src star dst target.Absent n = prelude.None
known_glob_back src star dst (target.Pattern second) n = known_filled src star dst second n
known_glob_back src star dst (target.Literal l) n = prelude.None

-- where it has none
abbrev pub known_literal_back : Side → Target → prelude.Option Ends
known_literal_back src target.Absent = prelude.None
known_literal_back src (target.Pattern second) = prelude.None
known_literal_back src (target.Literal l) = row_of (row-text.Led lead.AsIs src) row-text.Name

-- in reverse
abbrev pub known_back : Side → Needle → Side → Target → ℕ → prelude.Option Ends
known_back src needle.Absent dst rhs n = prelude.None
known_back src (needle.Glob star) dst rhs n = known_glob_back src star dst rhs n
known_back src needle.FullName dst rhs n = known_literal_back src rhs
known_back src needle.Object dst rhs n = known_literal_back src rhs
known_back src needle.PartialName dst rhs n = known_literal_back src rhs

-- r are the ends of each name of n bytes that has a forward row under the spec of a matcher, and of its object source, if it is one
pub record KnownForward (specs : Text) (m : Matcher) (n : ℕ) (r : prelude.Option Ends) : Type 0 where
  pub meant : (name : Text) → length name ≡ n → (s : Spec) → Matches specs s m → (e : listing.Ends) → forward_ends s name ≡ some e → ends_meant specs name r ≡ forward_ends s name
  pub object : (name : Text) (s : Spec) → Matches specs s m → (e : listing.Ends) → object_ends s ≡ some e → ends_meant specs name r ≡ object_ends s
  pub within : EndsWithin (length specs) n r

-- r are the ends of each name of n bytes that has a reverse row
pub record KnownReverse (specs : Text) (m : Matcher) (n : ℕ) (r : prelude.Option Ends) : Type 0 where
  pub meant : (name : Text) → length name ≡ n → (s : Spec) → Matches specs s m → (e : listing.Ends) → reverse_ends s name ≡ some e → ends_meant specs name r ≡ reverse_ends s name
  pub within : EndsWithin (length specs) n r
