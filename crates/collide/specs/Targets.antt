-- Where a spec writes, as a text and a target of it, and room for the digits of a literal that is led.
use Rattle.std.specs.Prelude.{suc, ◌≤◌, ◌≡◌, [], ◌∷◌, length, take, drop, replicate}
use Rattle.std.proofs.Math.Option.{Option, none, some}
use Rattle.meaning.specs.Bytes.{Text, lower}
use Rattle.meaning.specs.Limits.{spec_list_bytes, id_digits}
use Rattle.meaning.specs.Spec.{Spec, Answer, accepted, read_spec}
use Rattle.meaning.specs.Match.{Form, literal, pattern}
use Rattle.meaning.specs.Buffers.{Outputs}
use Rattle.meaning.specs.Collide as meaning
use Rattle.meaning.specs.Collide.{of_spec, collision}
use Rattle.meaning.specs.Entries.{◌and_then◌}
use Rattle.matcher.specs.declared.types.Lead.{Lead}
use Rattle.matcher.specs.declared.types.Lead.TheVariants as lead
use Rattle.matcher.specs.declared.types.Target.{Target}
use Rattle.matcher.specs.declared.types.Target.TheVariants as target
use Rattle.matcher.specs.Matching.{led_text}
use Rattle.matcher.specs.Sides.{TargetStar, TargetDigits}

-- room for the digits of an object id, which holds them in lower case where they are taken
abbrev pub digit_room : Lead → Text → Text
digit_room lead.AsIs t = replicate id_digits 0
digit_room lead.Refs t = replicate id_digits 0
digit_room lead.Heads t = replicate id_digits 0
digit_room lead.HeadsDigits t = lower t
digit_room lead.Digits t = lower t

-- the form that a target of a text is written as
abbrev pub form_written : Text → Target → Option Form
form_written t target.Absent = none
form_written t (target.Pattern star) = some (pattern (take star t) (drop (suc star) t))
form_written t (target.Literal l) = some (literal (led_text l t))

-- r is a target of the text t: its star stands in it, its digits are an object id, and it is not long
pub record TargetIn (t : Text) (r : Target) : Type 0 where
  pub starred : TargetStar (length t) r
  pub digits : TargetDigits t r
  pub few : length t ≤ spec_list_bytes

-- r is where the spec s writes, whose destination has the text t
pub record Writes (t : Text) (s : Spec) (r : Target) : Type 0 where
  pub written : form_written t r ≡ meaning.target s
  pub stands : TargetIn t r

-- the bytes of the report where the first spec was read as s: the second one's questions, then the answer
unfoldable pub report_after : Spec → Text → Answer Outputs
report_after s u = (of_spec 2 (read_spec 0 u) and_then λ r. accepted (collision s r)) and_then λ o. accepted (o ∷ [])
