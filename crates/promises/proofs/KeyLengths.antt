-- How long a canonical text can be: its sides are those of the spec, of which a source may stand twice. Assumes nothing.
use Prim.Native.Nat.{ℕ, suc, ◌+◌, ◌≤◌}
use native.Mathlib.Omega.{arith}
use mathlib.Core.Path.{◌≡◌, refl}
use mathlib.Core.Logic.{◌⊎◌, inl, inr}
use mathlib.Core.Bool.{Bool, true, false, cond}
use mathlib.Core.List.{[], ◌∷◌}
use mathlib.Core.Option.{Option, none, some}
use lib.ListN.{length, length-append}
use Rattle.meaning.specs.Bytes.{Text, bytes, colon, given, or_empty}
use Rattle.meaning.specs.Limits.{spec_bytes}
use Rattle.meaning.specs.Spec.{Mode, Normal, Force, Negative, Spec, push, mode_of, unsigned, sides_of, left, right, source_of, spec_from, spec_of}
use Rattle.meaning.specs.Instruction.{fetch_instruction, push_instruction, instruction, instruction_text, canonical_text}
use Rattle.promises.specs.Keys.{KeysWithin}
use Rattle.promises.proofs.Splitting.{sign_bytes, sign-length, sides-length}
use Rattle.promises.proofs.ReadSources.{Source, source_is}
use Rattle.promises.proofs.Accepted.{read-passed}

-- the sign, the source twice, the destination and a colon are enough for the text of any spec
abbrev Enough : Mode → Text → Option Text → Text → Type 0
Enough m src dst text = length text ≤ sign_bytes m + (length src + (length src + (length (or_empty dst) + 1)))

fetch-enough : (m : Mode) (src : Text) (dst : Option Text) → Enough m src dst (instruction_text (fetch_instruction m src dst))
fetch-enough Negative src dst = omega arith
fetch-enough Normal src none = omega arith
fetch-enough Normal src (some d) = omega (arith, length-append src (colon ∷ d))
fetch-enough Force src none = omega arith
fetch-enough Force src (some d) = omega (arith, length-append src (colon ∷ d))

push-enough : (m : Mode) (src dst : Option Text) → Enough m (or_empty src) dst (instruction_text (push_instruction m src dst))
push-enough Negative src dst = omega arith
push-enough Normal none none = omega arith
push-enough Normal none (some d) = omega arith
push-enough Normal (some s) none = omega (arith, length-append s (colon ∷ s))
push-enough Normal (some s) (some d) = omega (arith, length-append s (colon ∷ d))
push-enough Force none none = omega arith
push-enough Force none (some d) = omega arith
push-enough Force (some s) none = omega (arith, length-append s (colon ∷ s))
push-enough Force (some s) (some d) = omega (arith, length-append s (colon ∷ d))

text-enough : (op : ℕ) (s : Spec) → Enough s.mode (or_empty s.source) s.destination (instruction_text (instruction op s))
unfolding instruction
text-enough op s = go (push op)
  where
    go : (b : Bool) → Enough s.mode (or_empty s.source) s.destination (instruction_text (cond b (push_instruction s.mode s.source s.destination) (fetch_instruction s.mode (or_empty s.source) s.destination)))
    go true = push-enough s.mode s.source s.destination
    go false = fetch-enough s.mode (or_empty s.source) s.destination

-- a source is no longer than `HEAD`, or than its side
source-length : (op : ℕ) (m : Mode) (l : Text) → (length (or_empty (source_of op m l)) ≤ 4) ⊎ (length (or_empty (source_of op m l)) ≤ length l)
source-length op m l = go (source_of op m l) refl
  where
    by : (src : Text) → (src ≡ bytes "HEAD") ⊎ ((src ≡ l) × Source l) → (length src ≤ 4) ⊎ (length src ≤ length l)
    by src (inl q) = inl (rw q (omega arith))
    by src (inr q) = inr (rw q.0 (omega arith))

    go : (o : Option Text) → source_of op m l ≡ o → (length (or_empty o) ≤ 4) ⊎ (length (or_empty o) ≤ length l)
    go none e = inl (omega arith)
    go (some src) e = by src (source_is op m l src e)

-- a destination than its own
given-length : (r : Text) → length (or_empty (given r)) ≤ length r
given-length [] = omega arith
given-length (x ∷ r) = omega arith

-- the text of what a text means
meant-within : (op : ℕ) (t : Text) → length t ≤ spec_bytes → length (instruction_text (instruction op (spec_of op t))) ≤ spec_bytes + suc spec_bytes
unfolding spec_of spec_from
meant-within op t h = go (source-length op (mode_of t) l)
  where
    l : Text
    l = left (sides_of (unsigned t))

    enough : Enough (mode_of t) (or_empty (source_of op (mode_of t) (left (sides_of (unsigned t))))) (given (right (sides_of (unsigned t)))) (instruction_text (instruction op (spec_from op (mode_of t) (sides_of (unsigned t)))))
    enough = text-enough op (spec_from op (mode_of t) (sides_of (unsigned t)))

    go : (length (or_empty (source_of op (mode_of t) l)) ≤ 4) ⊎ (length (or_empty (source_of op (mode_of t) l)) ≤ length l) → length (instruction_text (instruction op (spec_from op (mode_of t) (sides_of (unsigned t))))) ≤ spec_bytes + suc spec_bytes
    go (inl q) = omega (arith, q, h, enough, sign-length t, sides-length (unsigned t), given-length (right (sides_of (unsigned t))))
    go (inr q) = omega (arith, q, h, enough, sign-length t, sides-length (unsigned t), given-length (right (sides_of (unsigned t))))

pub keys-within : KeysWithin
unfolding canonical_text
keys-within op t s e = let r = read-passed op t s e in rw (← r.spec_is_lem) (meant-within op t r.size)
