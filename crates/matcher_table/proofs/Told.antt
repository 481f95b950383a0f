-- The numbers of a needle and a target tell it again, and are small enough for a table. Assumes nothing.
use Prim.Native.Nat.{ℕ, zero, suc, ◌≤◌, ◌<◌}
use native.Mathlib.Omega.{arith}
use mathlib.Core.Path.{◌≡◌, refl}
use Rattle.meaning.specs.Limits.{spec_list_bytes}
use Rattle.parse.specs.declared.types.Side.{Side}
use Rattle.parse.specs.declared.types.Side.TheVariants as side
use Rattle.parse.specs.Places.{Within}
use Rattle.matcher.specs.declared.types.Needle.{Needle}
use Rattle.matcher.specs.declared.types.Needle.TheVariants as needle
use Rattle.matcher.specs.declared.types.Lead.{Lead}
use Rattle.matcher.specs.declared.types.Lead.TheVariants as lead
use Rattle.matcher.specs.declared.types.Target.{Target}
use Rattle.matcher.specs.declared.types.Target.TheVariants as target
use Rattle.matcher.specs.Matching.{StarIn, NeedleWithin, TargetWithin}
use Rattle.matcher.specs.Sides.{NeedleStar, TargetStar}
use Rattle.matcher_table.specs.Numbers.{needle_from, lead_from, target_from, needle_kind, needle_star, lead_kind, target_kind, target_number}

-- ---- numbers tell what they were made of
pub needle-told : (n : Needle) → needle_from (needle_kind n) (needle_star n) ≡ n
needle-told needle.Absent = refl
needle-told (needle.Glob star) = refl
needle-told needle.FullName = refl
needle-told needle.Object = refl
needle-told needle.PartialName = refl

lead-told : (l : Lead) → lead_from (lead_kind l) ≡ l
lead-told lead.AsIs = refl
lead-told lead.Refs = refl
lead-told lead.Heads = refl
lead-told lead.HeadsDigits = refl
lead-told lead.Digits = refl

pub target_told : (t : Target) → target_from (target_kind t) (target_number t) ≡ t
target_told target.Absent = refl
target_told (target.Pattern star) = refl
target_told (target.Literal l) = rw (lead-told l)

-- ---- a `match` on a number
module _ (kind star : ℕ) where
  pub needle-one : kind ≡ 1 → needle.Glob star ≡ needle_from kind star
  needle-one e = rw e

  pub needle-two : kind ≡ 2 → needle.FullName ≡ needle_from kind star
  needle-two e = rw e

  pub needle-three : kind ≡ 3 → needle.Object ≡ needle_from kind star
  needle-three e = rw e

pub needle-rest : (kind star : ℕ) → (kind ≡ 0 → ⊥) → (kind ≡ 1 → ⊥) → (kind ≡ 2 → ⊥) → (kind ≡ 3 → ⊥) → needle.PartialName ≡ needle_from kind star
needle-rest zero star a b c d = absurd (a refl)
needle-rest (suc zero) star a b c d = absurd (b refl)
needle-rest (suc (suc zero)) star a b c d = absurd (c refl)
needle-rest (suc (suc (suc zero))) star a b c d = absurd (d refl)
needle-rest (suc (suc (suc (suc kind)))) star a b c d = refl

module _ (n : ℕ) where
  pub lead-two : n ≡ 2 → lead.Heads ≡ lead_from n
  lead-two e = rw e

  pub lead-three : n ≡ 3 → lead.HeadsDigits ≡ lead_from n
  lead-three e = rw e

pub lead-rest : (n : ℕ) → (n ≡ 0 → ⊥) → (n ≡ 1 → ⊥) → (n ≡ 2 → ⊥) → (n ≡ 3 → ⊥) → lead.Digits ≡ lead_from n
lead-rest zero a b c d = absurd (a refl)
lead-rest (suc zero) a b c d = absurd (b refl)
lead-rest (suc (suc zero)) a b c d = absurd (c refl)
lead-rest (suc (suc (suc zero))) a b c d = absurd (d refl)
lead-rest (suc (suc (suc (suc n)))) a b c d = refl

pub target_one : (kind n : ℕ) → kind ≡ 1 → target.Pattern n ≡ target_from kind n
target_one kind n e = rw e

pub target-rest : (kind n : ℕ) (l : Lead) → (kind ≡ 0 → ⊥) → (kind ≡ 1 → ⊥) → l ≡ lead_from n → target.Literal l ≡ target_from kind n
target-rest zero n l a b e = absurd (a refl)
target-rest (suc zero) n l a b e = absurd (b refl)
target-rest (suc (suc kind)) n l a b e = rw e

-- ---- small numbers
pub needle-star-small : (l : Needle) (star : ℕ) → l ≡ needle.Glob star → NeedleStar spec_list_bytes l → star ≤ spec_list_bytes
needle-star-small l star is w = let h : star < spec_list_bytes = rw is at w in omega arith

pub target-star-small : (t : Target) (star : ℕ) → t ≡ target.Pattern star → TargetStar spec_list_bytes t → star ≤ spec_list_bytes
target-star-small t star is w = let h : star < spec_list_bytes = rw is at w in omega arith

star-small : (star : ℕ) (s : Side) → Within spec_list_bytes s → StarIn star s → star < spec_list_bytes
star-small star side.Absent w h = absurd h
star-small star (side.Part at n) w h = omega arith
star-small star side.Head w h = absurd h

module _ (s : Side) (w : Within spec_list_bytes s) where
  pub needle-small : (l : Needle) → NeedleWithin s l → NeedleStar spec_list_bytes l
  needle-small needle.Absent h = tt
  needle-small (needle.Glob star) h = star-small star s w h
  needle-small needle.FullName h = tt
  needle-small needle.Object h = tt
  needle-small needle.PartialName h = tt

  pub target_small : (t : Target) → TargetWithin s t → TargetStar spec_list_bytes t
  target_small target.Absent h = tt
  target_small (target.Pattern star) h = star-small star s w h
  target_small (target.Literal l) h = tt
