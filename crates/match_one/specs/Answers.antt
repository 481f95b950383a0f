-- What the parts of the code answer: ends as places, and what ends have to mean.
use Rattle.std.specs.Prelude as prelude
use Rattle.std.specs.Prelude.{ℕ, suc, ◌+◌, ◌-◌, ◌≡◌, Bool, true, false, not, cond, ◌++◌, length, take, drop}
use Rattle.std.proofs.Math.Option.{Option, none, some, map}
use Rattle.meaning.specs.Bytes.{Text}
use Rattle.meaning.specs.Match as meaning
use Rattle.meaning.specs.Match.{Form, literal, pattern, Hit, miss, whole, caught, hit, Mapped, unmapped, mapped, reverse_by}
use Rattle.meaning.specs.Listing as listing
use Rattle.meaning.specs.Listing.{ends_of}
use Rattle.parse.specs.declared.types.Side.{Side}
use Rattle.parse.specs.declared.types.Side.TheVariants as side
use Rattle.parse.specs.Places.{part_at}
use Rattle.refspec.specs.Instructions.{side_text}
use Rattle.glob.specs.declared.Captured.{Captured}
use Rattle.matcher.specs.declared.types.Matcher.{Matcher}
use Rattle.matcher.specs.declared.types.Needle.{Needle}
use Rattle.matcher.specs.declared.types.Needle.TheVariants as needle
use Rattle.matcher.specs.declared.types.Lead.TheVariants as lead
use Rattle.matcher.specs.declared.types.Target.{Target}
use Rattle.matcher.specs.declared.types.Target.TheVariants as target
use Rattle.matcher.specs.declared.types.Filled.{Filled}
use Rattle.matcher.specs.declared.types.RowText.{RowText}
use Rattle.matcher.specs.declared.types.RowText.TheVariants as row-text
use Rattle.matcher.specs.declared.types.Ends.{Ends}
use Rattle.matcher.specs.Matching.{led_text, ends_meant, EndsWithin}

-- the places of the pattern of so many bytes that begins at a place, with n bytes of the name, from a place on, for its star
abbrev pub filled_at : ℕ → ℕ → ℕ → ℕ → ℕ → Filled
filled_at at size star from n = record { start = at; start_len = star; from = from; len = n; end = at + star + 1; end_len = size - star - 1 }

-- a side that is such a pattern; only a part of the spec list has a star
abbrev pub filled_place : Side → ℕ → ℕ → ℕ → RowText
filled_place side.Absent star from n = row-text.Absent
filled_place (side.Part at size) star from n = row-text.Filled (filled_at at size star from n)
filled_place side.Head star from n = row-text.Absent

-- the ends of a row
abbrev pub row_of : RowText → RowText → prelude.Option Ends
row_of source destination = prelude.Some (record { source = source; destination = destination })

-- those of a name that a literal destination is
abbrev pub spelt_ends : Side → Ends
spelt_ends src = record { source = row-text.Led lead.AsIs src; destination = row-text.Name }

-- those with a source that has no capture
abbrev pub completed_places : RowText → Side → Target → prelude.Option Ends
completed_places source dst target.Absent = row_of source row-text.Absent
completed_places source dst (target.Pattern star) = prelude.None
completed_places source dst (target.Literal l) = row_of source (row-text.Led l dst)

-- the ends of a name that was matched as a whole
abbrev pub whole_places : Side → Target → prelude.Option Ends
whole_places dst rhs = completed_places row-text.Name dst rhs

-- the ends of a name that was matched with a capture
abbrev pub caught_places : Side → Target → ℕ → ℕ → prelude.Option Ends
caught_places dst target.Absent from n = row_of row-text.Name row-text.Absent
caught_places dst (target.Pattern star) from n = row_of row-text.Name (filled_place dst star from n)
caught_places dst (target.Literal l) from n = prelude.None

-- the ends of an object source's row by its destination
abbrev pub digits_places : Side → Side → Target → prelude.Option Ends
digits_places src dst rhs = completed_places (row-text.Led lead.Digits src) dst rhs

-- the ends of an object source's row, if the source is one
abbrev pub object_places : Side → Needle → Side → Target → prelude.Option Ends
object_places src needle.Absent dst rhs = prelude.None
object_places src (needle.Glob star) dst rhs = prelude.None
object_places src needle.FullName dst rhs = prelude.None
object_places src needle.Object dst rhs = digits_places src dst rhs
object_places src needle.PartialName dst rhs = prelude.None

-- what is caught of a name that is matched as a whole, if it is
abbrev pub whole_hit : Bool → prelude.Option Captured
whole_hit b = cond b (prelude.Some (record { from = 0; len = 0 })) prelude.None

-- a source has a star
abbrev pub is_star : Needle → Bool
is_star needle.Absent = false
is_star (needle.Glob star) = true
is_star needle.FullName = false
is_star needle.Object = false
is_star needle.PartialName = false

-- a destination takes what a source catches: a pattern a part of the name, a literal nothing, and none takes all
abbrev pub takes : Needle → Target → Bool
takes n target.Absent = true
takes n (target.Pattern star) = is_star n
takes n (target.Literal l) = not (is_star n)

-- the hit by what was caught of a name
abbrev pub hit_meant : Text → Needle → prelude.Option Captured → Hit
hit_meant name n prelude.None = miss
hit_meant name n (prelude.Some c) = cond (is_star n) (caught (part_at name c.from c.len)) whole

-- the destination of the forward row of a name of which this was caught
abbrev pub destination_place : Side → Target → Captured → RowText
destination_place dst target.Absent c = row-text.Absent
destination_place dst (target.Pattern star) c = filled_place dst star c.from c.len
destination_place dst (target.Literal l) c = row-text.Led l dst

-- the source of the reverse row
abbrev pub source_place : Side → Needle → Captured → RowText
source_place src needle.Absent c = row-text.Led lead.AsIs src
source_place src (needle.Glob star) c = filled_place src star c.from c.len
source_place src needle.FullName c = row-text.Led lead.AsIs src
source_place src needle.Object c = row-text.Led lead.AsIs src
source_place src needle.PartialName c = row-text.Led lead.AsIs src

-- the ends of these rows
abbrev pub forward_row : Matcher → Captured → Ends
forward_row m c = record { source = row-text.Name; destination = destination_place m.dst m.rhs c }

abbrev pub reverse_row : Matcher → Captured → Ends
reverse_row m c = record { source = source_place m.src m.lhs c; destination = row-text.Name }

-- the ends that come of what was caught, if anything was
abbrev pub forward_made : Matcher → prelude.Option Captured → prelude.Option Ends
forward_made m prelude.None = prelude.None
forward_made m (prelude.Some c) = prelude.Some (forward_row m c)

abbrev pub reverse_made : Matcher → prelude.Option Captured → prelude.Option Ends
reverse_made m prelude.None = prelude.None
reverse_made m (prelude.Some c) = prelude.Some (reverse_row m c)

-- how a needle matches a name; none matches nothing
abbrev pub hit_by : Option meaning.Needle → Text → Hit
hit_by none name = miss
hit_by (some n) name = hit n name

-- what a match makes with a destination whose text is t, a literal led as its target says
abbrev pub maps_led : Hit → Text → Target → Mapped
maps_led miss t rhs = unmapped
maps_led whole t target.Absent = mapped none
maps_led whole t (target.Pattern star) = unmapped
maps_led whole t (target.Literal l) = mapped (some (led_text l t))
maps_led (caught c) t target.Absent = mapped none
maps_led (caught c) t (target.Pattern star) = mapped (some (take star t ++ (c ++ drop (suc star) t)))
maps_led (caught c) t (target.Literal l) = unmapped

-- r are the ends of a name that was so matched
pub record Answers (specs name : Text) (dst : Side) (rhs : Target) (h : Hit) (r : prelude.Option Ends) : Type 0 where
  pub meant : ends_meant specs name r ≡ ends_of name (maps_led h (side_text specs dst) rhs)
  pub within : EndsWithin (length specs) (length name) r

-- the form of a source whose text is t, by what it looks for
abbrev pub needle_form : Text → Needle → Option Form
needle_form t needle.Absent = none
needle_form t (needle.Glob star) = some (pattern (take star t) (drop (suc star) t))
needle_form t needle.FullName = some (literal t)
needle_form t needle.Object = some (literal t)
needle_form t needle.PartialName = some (literal t)

-- the source that a name comes from, by the forms of the sides; both are needed
abbrev pub reverse_forms : Option Form → Option Form → Text → Option Text
reverse_forms none g name = none
reverse_forms (some f) none name = none
reverse_forms (some f) (some g) name = reverse_by f g name

-- the ends of a name that comes from a source
abbrev pub back_ends : Text → Option Text → Option listing.Ends
back_ends name o = map (λ src. record { source = src; destination = some name }) o

-- r are the ends of a name that comes from a source, if it does
pub record AnswersBack (specs name : Text) (o : Option Text) (r : prelude.Option Ends) : Type 0 where
  pub meant : ends_meant specs name r ≡ back_ends name o
  pub within : EndsWithin (length specs) (length name) r
