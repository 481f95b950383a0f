-- A spec as a matcher, what it makes of a name as places, and the meaning's needles, forms and ends that these denote.
use Rattle.std.specs.Prelude as prelude
use Rattle.std.specs.Prelude.{ℕ, suc, ◌+◌, ◌≤◌, ◌<◌, ◌≡◌, Bool, true, false, List, [], ◌∷◌, ◌++◌, length, take, drop}
use Rattle.std.proofs.Math.Option.{Option, none, some, map}
use Rattle.meaning.specs.Bytes.{Text, bytes, or_empty, lower}
use Rattle.meaning.specs.Spec.{Spec, is_negative}
use Rattle.meaning.specs.Rows as rows
use Rattle.meaning.specs.Match as meaning
use Rattle.meaning.specs.Match.{Form, literal, pattern, form_of, needle_of, completed, object_source, whole, Mapped, unmapped, mapped, maps_to}
use Rattle.meaning.specs.Listing as listing
use Rattle.parse.specs.declared.types.Side.{Side}
use Rattle.parse.specs.declared.types.Side.TheVariants as side
use Rattle.parse.specs.Places.{part_at, side_meant, Within}
use Rattle.refspec.specs.Instructions.{side_text}
use Rattle.matcher.specs.declared.types.Needle.{Needle}
use Rattle.matcher.specs.declared.types.Needle.TheVariants as needle
use Rattle.matcher.specs.declared.types.Lead.{Lead}
use Rattle.matcher.specs.declared.types.Lead.TheVariants as lead
use Rattle.matcher.specs.declared.types.Target.{Target}
use Rattle.matcher.specs.declared.types.Target.TheVariants as target
use Rattle.matcher.specs.declared.types.Matcher.{Matcher}
use Rattle.matcher.specs.declared.types.Filled.{Filled}
use Rattle.matcher.specs.declared.types.RowText.{RowText}
use Rattle.matcher.specs.declared.types.RowText.TheVariants as row-text
use Rattle.matcher.specs.declared.types.Ends.{Ends}

-- a text that is led
abbrev pub led_text : Lead → Text → Text
led_text lead.AsIs t = t
led_text lead.Refs t = bytes "refs/" ++ t
led_text lead.Heads t = bytes "refs/heads/" ++ t
led_text lead.HeadsDigits t = bytes "refs/heads/" ++ lower t
led_text lead.Digits t = lower t

-- the bytes that lead a literal
abbrev pub lead_bytes : Lead → Text
lead_bytes lead.AsIs = []
lead_bytes lead.Refs = bytes "refs/"
lead_bytes lead.Heads = bytes "refs/heads/"
lead_bytes lead.HeadsDigits = bytes "refs/heads/"
lead_bytes lead.Digits = []

-- what is led stands in lower case
abbrev pub lowers : Lead → Bool
lowers lead.AsIs = false
lowers lead.Refs = false
lowers lead.Heads = false
lowers lead.HeadsDigits = true
lowers lead.Digits = true

-- the bytes that are led
abbrev pub body_bytes : Lead → Text → Text
body_bytes lead.AsIs t = t
body_bytes lead.Refs t = t
body_bytes lead.Heads t = t
body_bytes lead.HeadsDigits t = lower t
body_bytes lead.Digits t = lower t

-- a pattern with the capture for its star, by the bytes of the spec list and the name
abbrev pub filled_text : Text → Text → Filled → Text
filled_text specs name f = part_at specs f.start f.start_len ++ (part_at name f.from f.len ++ part_at specs f.end f.end_len)

-- the text that a match makes, by the bytes of the spec list and the name
abbrev pub row_text_meant : Text → Text → RowText → Option Text
row_text_meant specs name row-text.Absent = none
row_text_meant specs name row-text.Name = some name
row_text_meant specs name (row-text.Led l s) = some (led_text l (side_text specs s))
row_text_meant specs name (row-text.Filled f) = some (filled_text specs name f)

-- the ends of a row, if there is one
abbrev pub ends_meant : Text → Text → prelude.Option Ends → Option listing.Ends
ends_meant specs name prelude.None = none
ends_meant specs name (prelude.Some e) = some (record { source = or_empty (row_text_meant specs name e.source); destination = row_text_meant specs name e.destination })

-- what a source whose text is t looks for
abbrev pub needle_meant : Text → Needle → Option meaning.Needle
needle_meant t needle.Absent = none
needle_meant t (needle.Glob star) = some (meaning.star_needle (take star t) (drop (suc star) t))
needle_meant t needle.FullName = some (meaning.full t)
needle_meant t needle.Object = some (meaning.object t)
needle_meant t needle.PartialName = some (meaning.partial t)

-- the form of a destination whose text is t
abbrev pub target_meant : Text → Target → Option Form
target_meant t target.Absent = none
target_meant t (target.Pattern star) = some (pattern (take star t) (drop (suc star) t))
target_meant t (target.Literal l) = some (literal t)

-- a literal destination whose text is t is led as it is completed
abbrev pub Completes : Text → Target → Type 0
Completes t target.Absent = Unit {0}
Completes t (target.Pattern star) = Unit {0}
Completes t (target.Literal l) = completed t ≡ led_text l t

-- the parts of a pattern that is filled stand within so many bytes of a spec list and of a name
pub record FilledWithin (len name_len : ℕ) (f : Filled) : Type 0 where
  pub start-within : f.start + f.start_len ≤ len
  pub capture-within : f.from + f.len ≤ name_len
  pub end-within : f.end + f.end_len ≤ len

-- the places of a text that a match makes stand within so many bytes of a spec list and of a name
abbrev pub RowTextWithin : ℕ → ℕ → RowText → Type 0
RowTextWithin len name_len row-text.Absent = Unit {0}
RowTextWithin len name_len row-text.Name = Unit {0}
RowTextWithin len name_len (row-text.Led l s) = Within len s
RowTextWithin len name_len (row-text.Filled f) = FilledWithin len name_len f

-- the places of a row's ends
abbrev pub RowEndsWithin : ℕ → ℕ → Ends → Type 0
RowEndsWithin len name_len e = RowTextWithin len name_len e.source × RowTextWithin len name_len e.destination

-- those of the ends of a row, if there is one
abbrev pub EndsWithin : ℕ → ℕ → prelude.Option Ends → Type 0
EndsWithin len name_len prelude.None = Unit {0}
EndsWithin len name_len (prelude.Some e) = RowEndsWithin len name_len e

-- a star stands in a side, which is then a part of the spec list
abbrev pub StarIn : ℕ → Side → Type 0
StarIn star side.Absent = ⊥
StarIn star (side.Part at n) = star < n
StarIn star side.Head = ⊥

-- the star of a source
abbrev pub NeedleWithin : Side → Needle → Type 0
NeedleWithin s needle.Absent = Unit {0}
NeedleWithin s (needle.Glob star) = StarIn star s
NeedleWithin s needle.FullName = Unit {0}
NeedleWithin s needle.Object = Unit {0}
NeedleWithin s needle.PartialName = Unit {0}

-- the star of a destination
abbrev pub TargetWithin : Side → Target → Type 0
TargetWithin s target.Absent = Unit {0}
TargetWithin s (target.Pattern star) = StarIn star s
TargetWithin s (target.Literal l) = Unit {0}

-- the sides of a matcher stand within so many bytes, and its stars within its sides
pub record MatcherWithin (len : ℕ) (m : Matcher) : Type 0 where
  pub src-within : Within len m.src
  pub dst-within : Within len m.dst
  pub lhs-within : NeedleWithin m.src m.lhs
  pub rhs-within : TargetWithin m.dst m.rhs

-- m, whose places stand in t, is the matcher of the spec s
pub record Matches (t : Text) (s : Spec) (m : Matcher) : Type 0 where
  pub src-is : side_meant t m.src ≡ s.source
  pub dst-is : side_meant t m.dst ≡ s.destination
  pub lhs-is : needle_meant (side_text t m.src) m.lhs ≡ map (needle_of (is_negative s.mode)) s.source
  pub rhs-is : target_meant (side_text t m.dst) m.rhs ≡ map form_of s.destination
  pub completes : Completes (side_text t m.dst) m.rhs
  pub within : MatcherWithin (length t) m

-- the ends of an object source's row, by its digits and its destination
abbrev pub object_ends_by : Option Text → Mapped → Option listing.Ends
object_ends_by none m = none
object_ends_by (some t) unmapped = none
object_ends_by (some t) (mapped dst) = some (record { source = lower t; destination = dst })

-- the ends of the row of a spec's object source, if it has one: its digits in lower case, its destination as after a match
unfoldable pub object_ends : Spec → Option listing.Ends
object_ends s = object_ends_by (object_source s) (maps_to whole (map form_of s.destination))

-- the row of such ends under spec i: no item, kind 1
abbrev pub object_row_of : ℕ → Option listing.Ends → List rows.Row
object_row_of i none = []
object_row_of i (some e) = record { item = 0; spec = i; kind = 1; source = e.source; destination = e.destination } ∷ []
