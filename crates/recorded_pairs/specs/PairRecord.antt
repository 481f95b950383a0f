-- The record of two fetch specs, by the meaning: what the bytes of a record are where the report that they tell is ours.
use Rattle.std.specs.Prelude.{◌≡◌, [], ◌∷◌, ◌++◌}
use Rattle.std.proofs.Math.Option.{Option, none, some}
use Rattle.meaning.specs.Bytes.{Text}
use Rattle.meaning.specs.Spec.{Answer, accepted, refused}
use Rattle.meaning.specs.Buffers.{or_zero}
use Rattle.meaning.specs.Collide.{collide}
use Rattle.recorded.specs.Record.{sized}

-- a report: a refusal's number, which spec is refused, 1 for a yes, and the destination; what has no meaning is 0, or has no bytes
abbrev pub report_bytes : Answer (Option Text) → Text
report_bytes (refused n r) = n ∷ or_zero r ∷ 0 ∷ sized []
report_bytes (accepted none) = 0 ∷ 0 ∷ 0 ∷ sized []
report_bytes (accepted (some d)) = 0 ∷ 0 ∷ 1 ∷ sized d

-- the record of two specs: both, and the report on them
unfoldable pub pair_record : Text → Text → Text
pair_record t u = sized t ++ (sized u ++ report_bytes (collide t u))

-- these bytes are the record of some two specs
pub record IsPairRecord (bytes : Text) : Type 0 where
  pub first : Text
  pub second : Text
  pub is : bytes ≡ pair_record first second
