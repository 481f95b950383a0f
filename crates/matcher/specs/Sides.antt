-- What the sides of a spec are read as: a needle and a target that mean what the meaning makes of the side.
use Rattle.std.specs.Prelude.{ℕ, ◌<◌, ◌≡◌, Bool, true, length}
use Rattle.std.proofs.Math.Option.{some, map}
use Rattle.meaning.specs.Bytes.{Text, object_id}
use Rattle.meaning.specs.Match.{form_of, needle_of, completed}
use Rattle.parse.specs.declared.types.Side.{Side}
use Rattle.parse.specs.Places.{side_meant}
use Rattle.refspec.specs.Instructions.{side_text}
use Rattle.matcher.specs.declared.types.Needle.{Needle}
use Rattle.matcher.specs.declared.types.Needle.TheVariants as needle
use Rattle.matcher.specs.declared.types.Lead.{Lead}
use Rattle.matcher.specs.declared.types.Lead.TheVariants as lead
use Rattle.matcher.specs.declared.types.Target.{Target}
use Rattle.matcher.specs.declared.types.Target.TheVariants as target
use Rattle.matcher.specs.Matching.{led_text, needle_meant, target_meant, Completes, NeedleWithin, TargetWithin}

-- a needle's star stands within so many bytes
abbrev pub NeedleStar : ℕ → Needle → Type 0
NeedleStar n needle.Absent = Unit {0}
NeedleStar n (needle.Glob star) = star < n
NeedleStar n needle.FullName = Unit {0}
NeedleStar n needle.Object = Unit {0}
NeedleStar n needle.PartialName = Unit {0}

-- a target's star stands within so many bytes
abbrev pub TargetStar : ℕ → Target → Type 0
TargetStar n target.Absent = Unit {0}
TargetStar n (target.Pattern star) = star < n
TargetStar n (target.Literal l) = Unit {0}

-- a text whose digits are taken is an object id
abbrev pub DigitsOf : Text → Lead → Type 0
DigitsOf t lead.AsIs = Unit {0}
DigitsOf t lead.Refs = Unit {0}
DigitsOf t lead.Heads = Unit {0}
DigitsOf t lead.HeadsDigits = object_id t ≡ true
DigitsOf t lead.Digits = object_id t ≡ true

-- so is a literal destination whose digits are taken
abbrev pub TargetDigits : Text → Target → Type 0
TargetDigits t target.Absent = Unit {0}
TargetDigits t (target.Pattern star) = Unit {0}
TargetDigits t (target.Literal l) = DigitsOf t l

-- r is how a literal destination with the text t is led
pub record LeadOf (t : Text) (r : Lead) : Type 0 where
  pub completes : completed t ≡ led_text r t
  pub digits : DigitsOf t r

-- r is what a source with the text t looks for
pub record NeedleOf (negative : Bool) (t : Text) (r : Needle) : Type 0 where
  pub meant : needle_meant t r ≡ some (needle_of negative t)
  pub starred : NeedleStar (length t) r

-- r is what a source looks for
pub record NeedleFor (specs : Text) (negative : Bool) (side : Side) (r : Needle) : Type 0 where
  pub meant : needle_meant (side_text specs side) r ≡ map (needle_of negative) (side_meant specs side)
  pub within : NeedleWithin side r

-- r is what a destination with the text t is
pub record TargetOf (t : Text) (r : Target) : Type 0 where
  pub meant : target_meant t r ≡ some (form_of t)
  pub completes : Completes t r
  pub digits : TargetDigits t r
  pub starred : TargetStar (length t) r

-- r is what a destination is
pub record TargetFor (specs : Text) (side : Side) (r : Target) : Type 0 where
  pub meant : target_meant (side_text specs side) r ≡ map form_of (side_meant specs side)
  pub completes : Completes (side_text specs side) r
  pub digits : TargetDigits (side_text specs side) r
  pub within : TargetWithin side r
