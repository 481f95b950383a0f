-- The ends of an object source's row, and that they mean the meaning's row. Assumes nothing.
use Prim.Native.Nat.{ℕ}
use mathlib.Core.Path.{◌≡◌, refl, ap, ap₂, ◌∙◌}
use mathlib.Core.Bool.{Bool}
use mathlib.Core.List.{[]}
use Rattle.std.specs.Prelude as prelude
use mathlib.Core.Option.{Option, none, some, map}
use lib.ListN.{length}
use Rattle.meaning.specs.Bytes.{Text}
use Rattle.meaning.specs.Spec.{Spec, is_negative}
use Rattle.meaning.specs.Match as meaning
use Rattle.meaning.specs.Match.{form_of, needle_of, object_in, object_by, object_source, whole, Mapped, unmapped, mapped, maps_to}
use Rattle.meaning.specs.Listing.{object_row, object_rows}
use Rattle.parse.specs.declared.types.Side.{Side}
use Rattle.parse.specs.Places.{Within}
use Rattle.refspec.specs.Instructions.{side_text}
use Rattle.matcher.specs.declared.types.Needle.{Needle}
use Rattle.matcher.specs.declared.types.Needle.TheVariants as needle
use Rattle.matcher.specs.declared.types.Lead.TheVariants as lead
use Rattle.matcher.specs.declared.types.Target.{Target}
use Rattle.matcher.specs.declared.types.Target.TheVariants as target
use Rattle.matcher.specs.declared.types.Matcher.{Matcher}
use Rattle.matcher.specs.declared.types.RowText.TheVariants as row-text
use Rattle.matcher.specs.declared.types.Ends.{Ends}
use Rattle.matcher.specs.Matching.{ends_meant, needle_meant, EndsWithin, MatcherWithin, Matches, object_ends_by, object_ends, object_row_of}
use Rattle.match_one.specs.Answers.{completed_places, digits_places, object_places, maps_led}
use Rattle.match_one.proofs.Onward.{led-maps}

-- the arms of a `match` on what the source looks for
module _ (src dst : Side) (lhs : Needle) (rhs : Target) where
  pub object_is : (r : prelude.Option Ends) → lhs ≡ needle.Object → r ≡ completed_places (row-text.Led lead.Digits src) dst rhs → r ≡ object_places src lhs dst rhs
  object_is r is h = rw is h

  pub object-not : (lhs ≡ needle.Object → ⊥) → prelude.None ≡ object_places src lhs dst rhs
  object-not d = go lhs d
    where
      go : (l : Needle) → (l ≡ needle.Object → ⊥) → prelude.None ≡ object_places src l dst rhs
      go needle.Absent d = refl
      go (needle.Glob star) d = refl
      go needle.FullName d = refl
      go needle.Object d = absurd (d refl)
      go needle.PartialName d = refl

-- the object id that is looked for, if anything is
abbrev object_in_by : Option meaning.Needle → Option Text
object_in_by none = none
object_in_by (some n) = object_in n

module _ (specs : Text) (src dst : Side) where
  -- places of an object source's ends denote them
  digits-meant : (rhs : Target) → ends_meant specs [] (digits_places src dst rhs) ≡ object_ends_by (some (side_text specs src)) (maps_led whole (side_text specs dst) rhs)
  digits-meant target.Absent = refl
  digits-meant (target.Pattern star) = refl
  digits-meant (target.Literal l) = refl

  object-meant : (lhs : Needle) (rhs : Target) → ends_meant specs [] (object_places src lhs dst rhs) ≡ object_ends_by (object_in_by (needle_meant (side_text specs src) lhs)) (maps_led whole (side_text specs dst) rhs)
  object-meant needle.Absent rhs = refl
  object-meant (needle.Glob star) rhs = refl
  object-meant needle.FullName rhs = refl
  object-meant needle.Object rhs = digits-meant rhs
  object-meant needle.PartialName rhs = refl

  module _ (w : Within (length specs) src) (v : Within (length specs) dst) where
    -- and stand within the list
    digits-within : (rhs : Target) → EndsWithin (length specs) 0 (digits_places src dst rhs)
    digits-within target.Absent = (w, tt)
    digits-within (target.Pattern star) = tt
    digits-within (target.Literal l) = (w, v)

    places-within : (lhs : Needle) (rhs : Target) → EndsWithin (length specs) 0 (object_places src lhs dst rhs)
    places-within needle.Absent rhs = tt
    places-within (needle.Glob star) rhs = tt
    places-within needle.FullName rhs = tt
    places-within needle.Object rhs = digits-within rhs
    places-within needle.PartialName rhs = tt

by-source : (negative : Bool) (o : Option Text) → object_in_by (map (needle_of negative) o) ≡ object_by negative o
by-source negative none = refl
by-source negative (some t) = refl

module _ (specs : Text) (m : Matcher) (r : prelude.Option Ends) (er : r ≡ object_places m.src m.lhs m.dst m.rhs) where
  -- the ends are those of the object source of the matcher's spec
  pub object-told : (s : Spec) → Matches specs s m → ends_meant specs [] r ≡ object_ends s
  unfolding object_ends object_source
  object-told s h =
      ap (ends_meant specs []) er
      ∙ object-meant specs m.src m.dst m.lhs m.rhs
      ∙ ap₂ object_ends_by
      (ap object_in_by h.lhs-is ∙ by-source (is_negative s.mode) s.source)
      (led-maps whole (side_text specs m.dst) m.rhs h.completes ∙ ap (maps_to whole) h.rhs-is)

  -- and stand within the list
  pub object-within : MatcherWithin (length specs) m → EndsWithin (length specs) 0 r
  object-within w = rw er (places-within specs m.src m.dst w.src-within w.dst-within m.lhs m.rhs)

  -- so they are told in all ways
  pub object-all : MatcherWithin (length specs) m → (r ≡ object_places m.src m.lhs m.dst m.rhs) × ((s : Spec) → Matches specs s m → ends_meant specs [] r ≡ object_ends s) × EndsWithin (length specs) 0 r
  object-all w = (er, λ s h. object-told s h, object-within w)

-- the meaning's row of an object source is the row of its ends
pub object-rows : (i : ℕ) (s : Spec) → object_rows (i, s) ≡ object_row_of i (object_ends s)
unfolding object_rows object_ends
object-rows i s = go (object_source s) (maps_to whole (map form_of s.destination))
  where
    go : (o : Option Text) (m : Mapped) → object_row i o m ≡ object_row_of i (object_ends_by o m)
    go none m = refl
    go (some t) unmapped = refl
    go (some t) (mapped dst) = refl
