-- Texts of one length are the same where the one begins with the other, and texts of two lengths never are; so a text ends with
-- another where its last bytes, as many as the other has, begin with it. Assumes nothing.
use mathlib.Core.Path.{◌≡◌, refl, sym, ap, ap₂, ◌∙◌}
use mathlib.Core.Bool.{Bool, true, false}
use mathlib.Core.List.{[], ◌∷◌}
use mathlib.Core.Logic.{◌⊎◌, inl, inr}
use Prim.Native.Nat.{ℕ, suc, ◌-◌, ◌≤◌, ◌<◌}
use native.Mathlib.Nat.{eq-or-lt_of_le}
use native.Mathlib.Omega.{arith}
use borrow.Author.Tests.{eq-eqb, ne_eqb, eqb-true, eqb-false}
use lib.Dec.{eqb}
use lib.ListN.{length, drop, take, length-drop}
use lib.Seq.{drop-nil}
use Rattle.meaning.specs.Bytes.{Text, ◌and◌, ◌or◌, begins, same, ends}
use Rattle.text.proofs.Rests.{rest_part}
use Rattle.text.proofs.Rows.{and-false}

-- a test of two numbers asks the same either way round
pub eqb_swap : (m n : ℕ) → eqb m n ≡ eqb n m
eqb_swap m n = go (eqb n m) refl
  where
    go : (b : Bool) → eqb n m ≡ b → eqb m n ≡ b
    go true e = eq-eqb m n (sym (eqb-true n m e))
    go false e = ne_eqb m n (λ q. eqb-false n m e (sym q))

-- and so of two texts
pub same-swap : (s t : Text) → same s t ≡ same t s
same-swap [] [] = refl
same-swap [] (y ∷ t) = refl
same-swap (x ∷ s) [] = refl
same-swap (x ∷ s) (y ∷ t) = ap₂ ◌and◌ (eqb_swap x y) (same-swap s t)

-- a text that begins with one of its own length is that text
pub begins-whole : (p s : Text) → length s ≡ length p → begins p s ≡ same p s
begins-whole [] [] h = refl
begins-whole [] (x ∷ s) h = absurd (omega arith)
begins-whole (a ∷ p) [] h = refl
begins-whole (a ∷ p) (x ∷ s) h = ap (λ (b : Bool). eqb a x and b) (begins-whole p s (omega arith))

-- texts of two lengths are never the same
pub same-other-length : (s t : Text) → (length s ≡ length t → ⊥) → same s t ≡ false
same-other-length [] [] n = absurd (n refl)
same-other-length [] (y ∷ t) n = refl
same-other-length (x ∷ s) [] n = refl
same-other-length (x ∷ s) (y ∷ t) n = rw (same-other-length s t (λ e. n (omega arith))) (and-false (eqb x y))

-- every text ends with no bytes
pub ends-empty : (p s : Text) → length p ≡ 0 → true ≡ ends p s
ends-empty [] [] h = refl
ends-empty [] (x ∷ s) h = ends-empty [] s h
ends-empty (a ∷ p) s h = absurd (omega arith)

module _ (s p : Text) where
  pub same-by-begins : (r : Bool) → length s ≡ length p → r ≡ begins p s → r ≡ same s p
  same-by-begins r h e = e ∙ begins-whole p s h ∙ same-swap p s

  pub same-never : (length s ≡ length p → ⊥) → false ≡ same s p
  same-never n = sym (same-other-length s p n)

pub or-false : (b : Bool) → (b or false) ≡ b
or-false true = refl
or-false false = refl

-- a text ends with none that is longer
ends-long : (p s : Text) → length s < length p → ends p s ≡ false
ends-long p [] h = same-other-length p [] (λ e. omega arith)
ends-long p (x ∷ s) h = rw (same-other-length p (x ∷ s) (λ e. omega arith)) (ends-long p s (omega arith))

-- what a text ends with are its last bytes
ends_last : (p s : Text) → length p ≤ length s → ends p s ≡ same p (drop (length s - length p) s)
ends_last p [] h = rw (drop-nil (0 - length p))
ends_last p (x ∷ s) h = go (eq-or-lt_of_le h) (ends_last p s)
  where
    go : (length p ≡ suc (length s)) ⊎ (length p < suc (length s)) → (length p ≤ length s → ends p s ≡ same p (drop (length s - length p) s))
        → ends p (x ∷ s) ≡ same p (drop (suc (length s) - length p) (x ∷ s))
    go (inl e) r =
        let z : suc (length s) - length p ≡ 0 = omega arith in
        rw (z, ends-long p s (omega arith)) (or-false (same p (x ∷ s)))
    go (inr l) r =
        let n : suc (length s) - length p ≡ suc (length s - length p) = omega arith in
        rw (n, same-other-length p (x ∷ s) (λ e. omega arith)) (r (omega arith))

module _ (s p : Text) where
  pub ends-by-begins : (r : Bool) → length p ≤ length s → r ≡ begins p (take (length s - (length s - length p)) (drop (length s - length p) s)) → r ≡ ends p s
  ends-by-begins r h e =
      let l : length (drop (length s - length p) s) ≡ length p = simp length-drop (omega arith) in
      e ∙ ap (begins p) (rest_part s (length s - length p)) ∙ begins-whole p (drop (length s - length p) s) l ∙ sym (ends_last p s h)

  pub ends-never : length s < length p → false ≡ ends p s
  ends-never h = sym (ends-long p s h)
