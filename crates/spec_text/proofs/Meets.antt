-- The answer of a call that writes what a spec means. Assumes nothing.
use Prim.Native.Nat.{ℕ}
use mathlib.Core.Path.{◌≡◌, refl}
use mathlib.Core.List.{[], ◌∷◌}
use mathlib.Core.Option.{none, some}
use Rattle.meaning.specs.Bytes.{Text}
use Rattle.meaning.specs.Spec as meaning
use Rattle.meaning.specs.Spec.{accepted}
use Rattle.meaning.specs.Buffers.{MeetsOne}
use Rattle.meaning.specs.Entries.{◌and_then◌}
use Rattle.buffer.specs.declared.written.Written.{Written}
use Rattle.buffer.specs.Answers.{refused_with}
use Rattle.buffer.proofs.Meets.{made-refused}
use Rattle.parse.specs.declared.types.RefSpec.{RefSpec}
use Rattle.std.specs.Prelude.{Result, Ok, Err}
use Rattle.refusal.specs.declared.Refusal.{Refusal}
use Rattle.refusal.specs.Numbers.{number_of}
use Rattle.parse.specs.Places.{spec_meant, parsed}
use Rattle.parse.proofs.Answers.{read-accepted, read-refused}

-- a call that writes what a spec means
module _ (write : meaning.Spec → Text) (op : ℕ) (t : Text) (answer : Result RefSpec Refusal) (ea : answer ≡ parsed op t) (entry : Text) where
  -- an accepted spec is written
  pub spec-accepted : (exit : Text) (r : RefSpec) (a b c : ℕ) → answer ≡ Ok r → MeetsOne (accepted (some (write (spec_meant t r)) ∷ [])) entry exit a b c → MeetsOne (meaning.read_spec op t and_then λ s. accepted (some (write s) ∷ [])) entry exit a b c
  spec-accepted exit r a b c e m = rw (read-accepted op t answer ea r e) m

  -- a refused one leaves the buffer as it was
  pub spec-refused : (q : Refusal) (n : ℕ) (w : Written) → answer ≡ Err q → n ≡ number_of q → w ≡ refused_with n 0 → MeetsOne (meaning.read_spec op t and_then λ s. accepted (some (write s) ∷ [])) entry entry w.refusal w.«record» w.length
  spec-refused q n w e en = made-refused (meaning.read_spec op t and_then λ s. accepted (some (write s) ∷ [])) entry n none 0 w (rw (read-refused op t answer ea q e, en)) refl
