-- The numbers of a side tell it again, and are small enough for a table. Assumes nothing.
use Prim.Native.Nat.{ℕ, zero, suc, ◌+◌, ◌≤◌}
use native.Mathlib.Omega.{arith}
use mathlib.Core.Path.{◌≡◌, refl}
use Rattle.meaning.specs.Limits.{spec_list_bytes}
use Rattle.parse.specs.declared.types.Side.{Side}
use Rattle.parse.specs.declared.types.Side.TheVariants.{Absent, Part, Head}
use Rattle.parse.specs.Places.{Within}
use Rattle.sides.specs.Numbers.{side_from, side_kind, side_at, side_len}

pub side-told : (s : Side) → side_from (side_kind s) (side_at s) (side_len s) ≡ s
side-told Absent = refl
side-told (Part at n) = refl
side-told Head = refl

-- ---- a `match` on a number
pub side-one : (kind at n : ℕ) → kind ≡ 1 → Part at n ≡ side_from kind at n
side-one kind at n e = rw e

pub side-rest : (kind at n : ℕ) → (kind ≡ 0 → ⊥) → (kind ≡ 1 → ⊥) → Head ≡ side_from kind at n
side-rest zero at n a b = absurd (a refl)
side-rest (suc zero) at n a b = absurd (b refl)
side-rest (suc (suc kind)) at n a b = refl

-- ---- small numbers
module _ (s : Side) (at n : ℕ) (is : s ≡ Part at n) (w : Within spec_list_bytes s) where
  pub at_small : at ≤ spec_list_bytes
  at_small = let h : at + n ≤ spec_list_bytes = rw is at w in omega arith

  pub len-small : n ≤ spec_list_bytes
  len-small = let h : at + n ≤ spec_list_bytes = rw is at w in omega arith

-- a side within so many bytes stands within more
pub side-wider : (len more : ℕ) (s : Side) → len ≤ more → Within len s → Within more s
side-wider len more Absent l w = tt
side-wider len more (Part at n) l w = omega arith
side-wider len more Head l w = tt
