-- The source of a spec that is read: it is itself when it is read again, and has no sign where the spec has none. Assumes nothing.
use mathlib.Core.Path.{◌≡◌, refl, sym}
use mathlib.Core.Logic.{◌⊎◌, inl, inr}
use mathlib.Core.Bool.{Bool, true, false, not, cond}
use mathlib.Core.List.{[], ◌∷◌, ◌++◌}
use mathlib.Core.Option.{some}
use Prim.Native.Nat.{ℕ}
use lib.Dec.{eqb}
use Rattle.meaning.specs.Bytes.{Text, bytes, colon, ◌and◌, same}
use Rattle.meaning.specs.Spec.{Mode, Normal, is_negative, mode_of_byte, mode_of, unsigned, Sides, one, two, sides_next, sides_of, left, supplied, named, source_of, spec_from, spec_of}
use Rattle.promises.proofs.Laws.{chosen}
use Rattle.promises.proofs.Clean.{Clean, clean}

-- what a source is: not empty, and not `@`
pub data Source : Text → Type 0 where
  source : (x : ℕ) (t : Text) → same (x ∷ t) (bytes "@") ≡ false → Source (x ∷ t)

-- a clean side is one
pub clean-source : (t : Text) → Clean t → Source t
clean-source t (clean x u a b c) = source x u c

-- the empty text is none
pub no-empty-source : Source [] → ⊥
no-empty-source h = elim h [ ]

-- it is itself when it is read again
pub source-again : (op : ℕ) (m : Mode) (t : Text) → Source t → source_of op m t ≡ some t
unfolding named
source-again op m t (source x u c) = rw c

-- with no sign at its front, nothing is taken off
pub no-sign-off : (t rest : Text) → Source t → mode_of t ≡ Normal → (mode_of (t ++ rest) ≡ Normal) × (unsigned (t ++ rest) ≡ t ++ rest)
no-sign-off t rest (source x u c) e = (e, rw e)

-- the source that a left side means is `HEAD`, or that side
pub source_is : (op : ℕ) (m : Mode) (l src : Text) → source_of op m l ≡ some src → (src ≡ bytes "HEAD") ⊎ ((src ≡ l) × Source l)
unfolding supplied named
source_is op m [] src e = inl (sym (chosen (eqb op 0 and not (is_negative m)) (bytes "HEAD") src e).1)
source_is op m (x ∷ t) src e = let q : named (x ∷ t) ≡ src = cc in go (same (x ∷ t) (bytes "@")) refl q
  where
    go : (b : Bool) → same (x ∷ t) (bytes "@") ≡ b → cond b (bytes "HEAD") (x ∷ t) ≡ src → (src ≡ bytes "HEAD") ⊎ ((src ≡ x ∷ t) × Source (x ∷ t))
    go true p q = inl (sym q)
    go false p q = inr (sym q, source x t p)

-- so it is a source
pub left-source : (op : ℕ) (m : Mode) (l src : Text) → source_of op m l ≡ some src → Source src
left-source op m l src e = go (source_is op m l src e)
  where
    go : (src ≡ bytes "HEAD") ⊎ ((src ≡ l) × Source l) → Source src
    go (inl q) = rw q (source 72 (bytes "EAD") refl)
    go (inr q) = rw q.0 q.1

-- and has no sign where the side has none
left-normal : (op : ℕ) (m : Mode) (l src : Text) → mode_of l ≡ Normal → source_of op m l ≡ some src → mode_of src ≡ Normal
unfolding mode_of_byte
left-normal op m l src n e = go (source_is op m l src e)
  where
    go : (src ≡ bytes "HEAD") ⊎ ((src ≡ l) × Source l) → mode_of src ≡ Normal
    go (inl q) = rw q
    go (inr q) = rw q.0 n

-- the source of a spec that is read is one
pub read-source : (op : ℕ) (t src : Text) → (spec_of op t).source ≡ some src → Source src
unfolding spec_of spec_from
read-source op t src e = left-source op (mode_of t) (left (sides_of (unsigned t))) src e

-- the left side of a text whose first byte is no sign has none
first-normal : (x : ℕ) (d : Sides) → mode_of_byte x ≡ Normal → mode_of (left (sides_next x d)) ≡ Normal
first-normal x (two a u) n = n
first-normal x (one u) n = go (eqb colon x)
  where
    go : (b : Bool) → mode_of (left (cond b (two [] u) (one (x ∷ u)))) ≡ Normal
    go true = refl
    go false = n

unsigned-normal : (t : Text) → mode_of t ≡ Normal → mode_of (left (sides_of (unsigned t))) ≡ Normal
unsigned-normal [] m = refl
unsigned-normal (x ∷ t) m = rw m (first-normal x (sides_of t) m)

-- so the source of a spec without sign has none
pub normal-source : (op : ℕ) (t src : Text) → mode_of t ≡ Normal → (spec_of op t).source ≡ some src → mode_of src ≡ Normal
unfolding spec_of spec_from
normal-source op t src m e = left-normal op (mode_of t) (left (sides_of (unsigned t))) src (unsigned-normal t m) e
