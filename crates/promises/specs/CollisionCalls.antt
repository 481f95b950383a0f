-- What a call for the report on two specs tells, and leaves in its buffer: document 02, W1. The contract of the entry says that a call
-- meets its answer; the buffer and the numbers told are any that do. The words are defined in Terms, the proof stands in
-- proofs/CollisionCalls.
use Rattle.std.specs.Prelude.{ℕ, ◌<◌, ◌≡◌}
use Rattle.std.proofs.Math.Option.{Option}
use Rattle.meaning.specs.Bytes.{Text}
use Rattle.meaning.specs.Spec.{accepted, refused, Spec, read_spec}
use Rattle.meaning.specs.Collide.{collide_bytes}
use Rattle.promises.specs.Terms.{TwoSpecs, MaybeCall, MetMaybe, TellsAlone, TellsBytes, TellsShort}
use Rattle.promises.specs.Collisions.{WrittenTo}

-- "The first spec's questions come before the second's, and 17 is last."
-- A call tells one of five things: the first spec's refusal, or the second's; that no destination is written to under both; such a
-- destination; or that its buffer is too short for one.
pub data ToldOf (t u : Text) (c : MaybeCall) : Type 0 where
  told_first : (n : ℕ) (k : Option ℕ) → 0 < n → read_spec 0 t ≡ refused n k → TellsAlone n 1 c → ToldOf t u c
  told_second : (s : Spec) (n : ℕ) (k : Option ℕ) → 0 < n → read_spec 0 t ≡ accepted s → read_spec 0 u ≡ refused n k → TellsAlone n 2 c → ToldOf t u c
  told_no : (s r : Spec) → TwoSpecs 0 t u s r → ((d : Text) → WrittenTo s d → WrittenTo r d → ⊥) → TellsAlone 0 0 c → ToldOf t u c
  told_yes : (s r : Spec) (d : Text) → TwoSpecs 0 t u s r → WrittenTo s d → WrittenTo r d → TellsBytes d c → ToldOf t u c
  told_short : (s r : Spec) (d : Text) → TwoSpecs 0 t u s r → WrittenTo s d → WrittenTo r d → TellsShort d c → ToldOf t u c

abbrev pub ReportTold : Type 0
ReportTold = (t u : Text) (c : MaybeCall) → MetMaybe (collide_bytes t u) c → ToldOf t u c
