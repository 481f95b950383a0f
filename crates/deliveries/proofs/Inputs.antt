-- What was read of an input gives what the whole input gives: it is the whole, or both are too long. Assumes nothing.
use Rattle.std.proofs.Common.{◌≡◌, ◌⊎◌, inl, inr, ℕ, ◌+◌, ◌<◌, ◌≤◌, [], ◌++◌, arith, refl, sym, ap, ◌∙◌, subst, length, take, append-nil, length-append, length-take-le, Option, None, Some, IfSome}
use Rattle.std.proofs.Math.Nat.{eq-or-lt_of_le}
use borrow.Author.Tests.{lt-leb}
use Rattle.std.specs.Io.KnownBytes.{Appends, Consumes, IsAtEnd}
use Rattle.std.proofs.Math.Option.{none}
use Rattle.meaning.specs.Bytes.{Text}
use Rattle.meaning.specs.Spec.{refused}
use Rattle.meaning.specs.Limits.{program_bytes}
use Rattle.meaning.specs.Deliveries.{deliveries, output}

-- an input above the limit is refused, whatever it holds
too-long : (t : Text) → program_bytes < length t → deliveries t ≡ output (refused 12 none)
unfolding deliveries
too-long t h = rw (lt-leb (length t) program_bytes h) refl

module _ (buffer rest : Text) (n : ℕ) (room : length buffer ≡ program_bytes + 1) (within : n ≤ length buffer) (ends : n < length buffer → rest ≡ []) where
  read-gives : deliveries (take n buffer) ≡ deliveries (take n buffer ++ rest)
  read-gives = go (eq-or-lt_of_le within)
    where
      size : length (take n buffer) ≡ n
      size = length-take-le n buffer within

      go : (n ≡ length buffer) ⊎ (n < length buffer) → deliveries (take n buffer) ≡ deliveries (take n buffer ++ rest)
      go (inl e) = too-long (take n buffer) (omega (arith, size, e, room)) ∙ sym (too-long (take n buffer ++ rest) (omega (arith, size, e, room, length-append (take n buffer) rest)))
      go (inr h) = ap deliveries (sym (ap (λ l. take n buffer ++ l) (ends h) ∙ append-nil (take n buffer)))

-- what was written for what was read was written for the whole input, where that is known
pub whole-written : (old new before after : Option Text) (buffer : Text) (n : ℕ) → length buffer ≡ program_bytes + 1 → n ≤ length buffer
    → Consumes old new (take n buffer) → (n < length buffer → IsAtEnd new)
    → Appends before after (deliveries (take n buffer)) → IfSome old (λ input. Appends before after (deliveries input))
whole-written None new before after buffer n room within bytes ends written = tt
whole-written (Some x) None before after buffer n room within bytes ends written = absurd bytes
whole-written (Some x) (Some y) before after buffer n room within bytes ends written =
    subst (Appends before after) (read-gives buffer y n room within ends ∙ ap deliveries (sym bytes)) written
