-- A text splits at its last colon, and only there. Assumes nothing.
use mathlib.Core.Path.{◌≡◌, refl, sym, ap, ◌∙◌}
use mathlib.Core.Bool.{Bool, true, false, cond}
use mathlib.Core.List.{[], ◌∷◌, ◌++◌, append-nil}
use Prim.Native.Nat.{ℕ, suc, ◌+◌, ◌≤◌}
use native.Mathlib.Omega.{arith}
use borrow.Author.Tests.{eqb-true}
use lib.Dec.{eqb}
use lib.ListN.{length, length-append}
use Rattle.meaning.specs.Bytes.{Text, colon, has_byte}
use Rattle.meaning.specs.Spec.{Mode, Normal, Force, Negative, mode_of_byte, mode_of, sign_off, unsigned, Sides, one, two, sides_next, sides_of, left, right}
use Rattle.promises.specs.Facts.{LastColon}
use Rattle.promises.proofs.Laws.{or-none}

-- a text with no colon is one side
pub sides-one : (t : Text) → has_byte colon t ≡ false → sides_of t ≡ one t
sides-one [] e = refl
sides-one (x ∷ t) e = let n = or-none (eqb colon x) (has_byte colon t) e in rw (sides-one t n.1, n.0)

-- a text splits at a colon with no colon after it
pub sides-two : (s t : Text) → has_byte colon t ≡ false → sides_of (s ++ (colon ∷ t)) ≡ two s t
sides-two [] t e = rw (sides-one t e)
sides-two (x ∷ s) t e = rw (sides-two s t e)

-- what sides say of the text that they are of
abbrev SidesSay : Text → Sides → Type 0
SidesSay t (one u) = (t ≡ u) × (has_byte colon t ≡ false)
SidesSay t (two s u) = (t ≡ s ++ (colon ∷ u)) × (has_byte colon u ≡ false)

sides-next : (x : ℕ) (t : Text) (d : Sides) → SidesSay t d → SidesSay (x ∷ t) (sides_next x d)
sides-next x t (two s u) h = (ap (λ (k : Text). x ∷ k) h.0, h.1)
sides-next x t (one u) h = go (eqb colon x) refl
  where
    go : (b : Bool) → eqb colon x ≡ b → SidesSay (x ∷ t) (cond b (two [] u) (one (x ∷ u)))
    go true e = let c : colon ≡ x = eqb-true colon x e in let v : t ≡ u = h.0 in (rw (← c, v), rw (← v) h.1)
    go false e = (ap (λ (k : Text). x ∷ k) h.0, rw (e, h.1))

-- the sides of a text say what it is
pub sides-say : (t : Text) → SidesSay t (sides_of t)
sides-say [] = (refl, refl)
sides-say (x ∷ t) = sides-next x t (sides_of t) (sides-say t)

-- both ways
pub last-colon : LastColon
last-colon = record { no-colon = sides-one; at_last = sides-two; one-is = λ t u e. rw e at (sides-say t); two_is = λ t s u e. rw e at (sides-say t) }

-- the sides of a text are no longer than it
pub sides-length : (t : Text) → length (left (sides_of t)) + length (right (sides_of t)) ≤ length t
sides-length t = go (sides_of t) (sides-say t)
  where
    go : (d : Sides) → SidesSay t d → length (left d) + length (right d) ≤ length t
    go (one u) h = rw h.0 (omega arith)
    go (two s u) h = rw h.0 (omega (arith, length-append s (colon ∷ u)))

-- the left side begins the text
pub sides-begin : (t : Text) → (rest : Text) × (t ≡ left (sides_of t) ++ rest)
sides-begin t = go (sides_of t) (sides-say t)
  where
    go : (d : Sides) → SidesSay t d → (rest : Text) × (t ≡ left d ++ rest)
    go (one u) h = ([], h.0 ∙ sym (append-nil u))
    go (two s u) h = (colon ∷ u, h.0)

-- the bytes of a sign
abbrev pub sign_bytes : Mode → ℕ
sign_bytes Normal = 0
sign_bytes Force = 1
sign_bytes Negative = 1

-- a sign and what follows it are no longer than the text
pub sign-length : (t : Text) → sign_bytes (mode_of t) + length (unsigned t) ≤ length t
sign-length [] = omega arith
sign-length (x ∷ t) = go (mode_of_byte x)
  where
    go : (m : Mode) → sign_bytes m + length (sign_off m x t) ≤ suc (length t)
    go Normal = omega arith
    go Force = omega arith
    go Negative = omega arith

-- a text without its sign is no longer
pub unsigned-length : (t : Text) → length (unsigned t) ≤ length t
unsigned-length t = omega (arith, sign-length t)

-- a sign is taken off the first byte, whatever follows
pub unsigned-append : (x : ℕ) (t rest : Text) → unsigned ((x ∷ t) ++ rest) ≡ unsigned (x ∷ t) ++ rest
unsigned-append x t rest = go (mode_of_byte x)
  where
    go : (m : Mode) → sign_off m x (t ++ rest) ≡ sign_off m x t ++ rest
    go Normal = refl
    go Force = refl
    go Negative = refl
