-- Full destinations. Assumes nothing.
use mathlib.Core.Path.{◌≡◌}
use mathlib.Core.Logic.{◌⊎◌, inl, inr}
use mathlib.Core.Bool.{true}
use Rattle.meaning.specs.Bytes.{Text, if_given}
use Rattle.meaning.specs.Validation.{is_full}
use Rattle.parse.specs.declared.types.Side.{Side}
use Rattle.parse.specs.declared.types.Side.TheVariants.{Absent, Head}
use Rattle.parse.specs.Places.{side_meant}

-- the arms of a `match` on a destination
module _ (s : Text) (d : Side) where
  pub none-kept : (d ≡ Absent) ⊎ (d ≡ Head) → true ≡ if_given is_full (side_meant s d)
  unfolding is_full
  none-kept (inl e) = rw e
  none-kept (inr e) = rw e
