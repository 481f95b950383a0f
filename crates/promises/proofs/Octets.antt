-- The sides of a spec are byte strings where its text is one. Assumes nothing.
use mathlib.Core.Path.{◌≡◌, refl, sym, ap, ◌∙◌}
use mathlib.Core.Logic.{◌⊎◌, inl, inr}
use mathlib.Core.Bool.{Bool, true}
use mathlib.Core.List.{[], ◌∷◌, ◌++◌}
use mathlib.Core.Option.{some}
use Prim.Native.Nat.{ℕ}
use native.Mathlib.Omega.{arith}
use Rattle.meaning.specs.Bytes.{Text, bytes, colon, every, given}
use Rattle.meaning.specs.Spec.{accepted, Mode, Normal, Force, Negative, Spec, mode_of_byte, mode_of, sign_off, unsigned, Sides, one, two, sides_of, left, right, source_of, spec_from, spec_of, read_spec}
use Rattle.promises.specs.Facts.{is_byte}
use Rattle.promises.proofs.Laws.{and_right, every-left, every-right}
use Rattle.promises.proofs.Splitting.{last-colon}
use Rattle.promises.proofs.ReadSources.{Source, source_is}
use Rattle.promises.proofs.Accepted.{read-passed}

-- a byte string
abbrev pub octets : Text → Bool
octets t = every is_byte t

-- without its sign
unsigned-octets : (t : Text) → octets t ≡ true → octets (unsigned t) ≡ true
unsigned-octets [] h = refl
unsigned-octets (x ∷ t) h = go (mode_of_byte x)
  where
    go : (m : Mode) → octets (sign_off m x t) ≡ true
    go Normal = h
    go Force = and_right (is_byte x) (octets t) h
    go Negative = and_right (is_byte x) (octets t) h

-- either side
sides-octets : (t : Text) → octets t ≡ true → (octets (left (sides_of t)) ≡ true) × (octets (right (sides_of t)) ≡ true)
sides-octets t h = go (sides_of t) refl
  where
    go : (d : Sides) → sides_of t ≡ d → (octets (left d) ≡ true) × (octets (right d) ≡ true)
    go (one u) e = (ap octets (sym (last-colon.one-is t u e).0) ∙ h, refl)
    go (two s u) e =
        let w : octets (s ++ (colon ∷ u)) ≡ true = ap octets (sym (last-colon.two_is t s u e).0) ∙ h in
        (every-left is_byte s (colon ∷ u) w, every-right is_byte s (colon ∷ u) w)

-- what a left side means
source-octets : (op : ℕ) (m : Mode) (l src : Text) → octets l ≡ true → source_of op m l ≡ some src → octets src ≡ true
source-octets op m l src h e = go (source_is op m l src e)
  where
    go : (src ≡ bytes "HEAD") ⊎ ((src ≡ l) × Source l) → octets src ≡ true
    go (inl q) = rw q
    go (inr q) = rw q.0 h

-- and a right side
given-octets : (r dst : Text) → octets r ≡ true → given r ≡ some dst → octets dst ≡ true
given-octets [] dst h e = absurd (let z : ◌≡◌ {A = ℕ} 0 1 = cc in omega arith)
given-octets (x ∷ r) dst h e = let q : x ∷ r ≡ dst = cc in ap octets (sym q) ∙ h

-- the sides of an accepted spec whose text is a byte string
pub spec-octets : (op : ℕ) (t : Text) (s : Spec) → read_spec op t ≡ accepted s → octets t ≡ true → ((src : Text) → s.source ≡ some src → octets src ≡ true) × ((dst : Text) → s.destination ≡ some dst → octets dst ≡ true)
unfolding spec_of spec_from
spec-octets op t s e h =
    let f = (read-passed op t s e).spec_is_lem in
    let k = sides-octets (unsigned t) (unsigned-octets t h) in (
      (λ src p. source-octets op (mode_of t) (left (sides_of (unsigned t))) src k.0 (ap (λ (x : Spec). x.source) f ∙ p)),
      (λ dst p. given-octets (right (sides_of (unsigned t))) dst k.1 (ap (λ (x : Spec). x.destination) f ∙ p)),
    )
