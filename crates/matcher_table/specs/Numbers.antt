-- A matcher as ten numbers: three of its source, two of what it looks for, three of its destination and two of what that is.
use Rattle.std.specs.Prelude.{ℕ, zero, suc, ◌+◌, ◌*◌, ◌≡◌, List, [], ◌∷◌, ◌++◌, length, get_or}
use Rattle.buffer.specs.Splice.{splice}
use Rattle.parse.specs.declared.types.Side.{Side}
use Rattle.parse.specs.declared.types.Side.TheVariants as side
use Rattle.sides.specs.Numbers.{side_from, side_kind, side_at, side_len}
use Rattle.matcher.specs.declared.types.Needle.{Needle}
use Rattle.matcher.specs.declared.types.Needle.TheVariants as needle
use Rattle.matcher.specs.declared.types.Lead.{Lead}
use Rattle.matcher.specs.declared.types.Lead.TheVariants as lead
use Rattle.matcher.specs.declared.types.Target.{Target}
use Rattle.matcher.specs.declared.types.Target.TheVariants as target
use Rattle.matcher.specs.declared.types.Matcher.{Matcher}

-- how many numbers a matcher has in a table
abbrev pub matcher_numbers : ℕ
matcher_numbers = 10

-- what two numbers tell that a source looks for
abbrev pub needle_from : ℕ → ℕ → Needle
needle_from zero star = needle.Absent
needle_from (suc zero) star = needle.Glob star
needle_from (suc (suc zero)) star = needle.FullName
needle_from (suc (suc (suc zero))) star = needle.Object
needle_from (suc (suc (suc (suc more)))) star = needle.PartialName

-- the lead that a number tells
abbrev pub lead_from : ℕ → Lead
lead_from zero = lead.AsIs
lead_from (suc zero) = lead.Refs
lead_from (suc (suc zero)) = lead.Heads
lead_from (suc (suc (suc zero))) = lead.HeadsDigits
lead_from (suc (suc (suc (suc more)))) = lead.Digits

-- what two numbers tell of a destination
abbrev pub target_from : ℕ → ℕ → Target
target_from zero n = target.Absent
target_from (suc zero) n = target.Pattern n
target_from (suc (suc more)) n = target.Literal (lead_from n)

-- matcher number k of a table
unfoldable pub matcher_at : List ℕ → ℕ → Matcher
matcher_at t k =
    record {
      src = side_from (get_or t (matcher_numbers * k) 0) (get_or t (matcher_numbers * k + 1) 0) (get_or t (matcher_numbers * k + 2) 0);
      lhs = needle_from (get_or t (matcher_numbers * k + 3) 0) (get_or t (matcher_numbers * k + 4) 0);
      dst = side_from (get_or t (matcher_numbers * k + 5) 0) (get_or t (matcher_numbers * k + 6) 0) (get_or t (matcher_numbers * k + 7) 0);
      rhs = target_from (get_or t (matcher_numbers * k + 8) 0) (get_or t (matcher_numbers * k + 9) 0);
    }

-- the matcher of a spec that gives no rows
abbrev pub no_matcher : Matcher
no_matcher = record { src = side.Absent; lhs = needle.Absent; dst = side.Absent; rhs = target.Absent }

-- ---- the numbers

-- which needle it is
abbrev pub needle_kind : Needle → ℕ
needle_kind needle.Absent = 0
needle_kind (needle.Glob star) = 1
needle_kind needle.FullName = 2
needle_kind needle.Object = 3
needle_kind needle.PartialName = 4

-- where its star stands
abbrev pub needle_star : Needle → ℕ
needle_star needle.Absent = 0
needle_star (needle.Glob star) = star
needle_star needle.FullName = 0
needle_star needle.Object = 0
needle_star needle.PartialName = 0

-- which lead it is
abbrev pub lead_kind : Lead → ℕ
lead_kind lead.AsIs = 0
lead_kind lead.Refs = 1
lead_kind lead.Heads = 2
lead_kind lead.HeadsDigits = 3
lead_kind lead.Digits = 4

-- which target it is
abbrev pub target_kind : Target → ℕ
target_kind target.Absent = 0
target_kind (target.Pattern star) = 1
target_kind (target.Literal l) = 2

-- where its star stands, or how it is led
abbrev pub target_number : Target → ℕ
target_number target.Absent = 0
target_number (target.Pattern star) = star
target_number (target.Literal l) = lead_kind l

-- the numbers of one side: the side, its kind and one number more
abbrev pub half_numbers : Side → ℕ → ℕ → List ℕ
half_numbers s kind n = side_kind s ∷ side_at s ∷ side_len s ∷ kind ∷ n ∷ []

-- the numbers of a source
unfoldable pub source_numbers : Side → Needle → List ℕ
source_numbers s n = half_numbers s (needle_kind n) (needle_star n)

-- and of a destination
unfoldable pub destination_numbers : Side → Target → List ℕ
destination_numbers s t = half_numbers s (target_kind t) (target_number t)

-- a matcher m is put into a table as number k: its numbers are written there, and the others are kept
pub record PutMatcher (before : List ℕ) (k : ℕ) (m : Matcher) (after : List ℕ) : Type 0 where
  pub written : after ≡ splice before (matcher_numbers * k) (source_numbers m.src m.lhs ++ destination_numbers m.dst m.rhs)
  pub size : length after ≡ length before
  pub kept : (j : ℕ) → (j ≡ k → ⊥) → matcher_at after j ≡ matcher_at before j
  pub there : matcher_at after k ≡ m
