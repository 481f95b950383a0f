-- Where a record stands in its list, and the part that a view hands back, in the code's numbers.
use Rattle.std.specs.Prelude.{ℕ, zero, suc, ◌+◌, ◌-◌, cond, length, Result, Ok, Err}
use Rattle.std.proofs.Math.Option.{Option, none, some}
use Rattle.meaning.specs.Bytes.{Text, object_id}
use Rattle.meaning.specs.Spec.{Answer, accepted, refused, Spec, mode_of, read_spec}
use Rattle.meaning.specs.Number.{Step, took, no, read_text}
use Rattle.meaning.specs.Match.{object_source}
use Rattle.meaning.specs.View as meaning
use Rattle.parse.specs.declared.types.Side.{Side}
use Rattle.parse.specs.declared.types.Side.TheVariants as sides
use Rattle.parse.specs.Places.{part_at, sign_length}
use Rattle.list.specs.declared.refused.Refused.{Refused}
use Rattle.list.specs.declared.stretch.Stretch.{Stretch}
use Rattle.refusal.specs.Numbers.{number_of}
use Rattle.view.specs.declared.Lent.{Lent}
use Rattle.view.specs.declared.Lent.TheVariants.{Items, Specs}
use Rattle.view.specs.declared.Viewed.{Viewed}
use Rattle.view.specs.declared.Part.{Part}

-- a list after its first n records
abbrev pub after_records : ℕ → Text → Text
after_records zero list = list
after_records (suc n) list = after_records n (meaning.left_by (read_text list))

-- where a text that was read stands in its list: it ends where what is left begins. Where none was read, no bytes at the list's end
abbrev pub extent_of : Text → Step Text → Stretch
extent_of list (took t rest) = record { at = length list - length rest - length t; len = length t }
extent_of list (no n) = record { at = length list; len = 0 }

-- where record n of a list stands
unfoldable pub extent_at : Text → ℕ → Stretch
extent_at list n = extent_of list (read_text (after_records n list))

-- the bytes of an extent
abbrev pub text_at : Text → Stretch → Text
text_at list e = part_at list e.at e.len

-- a view in the code's numbers
abbrev pub part_of : Answer meaning.Part → Part
part_of a =
    record {
      refusal = (meaning.view_numbers a).refusal;
      «record» = (meaning.view_numbers a).record_number;
      list = (meaning.view_numbers a).list;
      start = (meaning.view_numbers a).start;
      length = (meaning.view_numbers a).size;
    }

-- a refused view: its number, and an empty part
abbrev pub refused_part : ℕ → ℕ → Part
refused_part n r = record { refusal = n; «record» = r; list = 0; start = 0; length = 0 }

-- a part of the list with this number
abbrev pub accepted_part : ℕ → ℕ → ℕ → Part
accepted_part which at n = record { refusal = 0; «record» = 0; list = which; start = at; length = n }

-- the number of a list
abbrev pub lent_number : Lent → ℕ
lent_number Items = 0
lent_number Specs = 1

-- what the code answers, in numbers
abbrev pub part_told : Result Viewed Refused → Part
part_told (Ok v) = accepted_part (lent_number v.list) v.text.at v.text.len
part_told (Err e) = refused_part (number_of e.refusal) e.«record»

-- the digits of an object id that begin at a place of the spec list; 16 where there is none
abbrev pub digits_at : ℕ → Option Text → Part
digits_at at none = refused_part 16 0
digits_at at (some d) = accepted_part 1 at (length d)

-- a text that is an object id
abbrev pub object_text : Text → Option Text
object_text t = cond (object_id t) (some t) none

-- the digits of a source, as it stands in a spec that begins at a place of the list
abbrev pub side_digits : Text → ℕ → Side → Part
side_digits list start sides.Absent = refused_part 16 0
side_digits list start (sides.Part at n) = digits_at (start + at) (object_text (part_at list (start + at) n))
side_digits list start sides.Head = refused_part 16 0

-- the object id of a spec that was read
abbrev pub object_read : Answer Spec → Option Text
object_read (accepted s) = object_source s
object_read (refused n r) = none

-- the digits of the spec that stands in an extent: they follow its sign
unfoldable pub spec_digits : ℕ → Text → Stretch → Part
spec_digits op list e = digits_at (e.at + sign_length (mode_of (text_at list e))) (object_read (read_spec op (text_at list e)))
