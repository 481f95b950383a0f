-- What may follow a byte, by the bytes that the code looks at. Assumes nothing.
use mathlib.Core.Path.{◌≡◌, refl, sym, ap}
use mathlib.Core.Bool.{Bool, true, false, not}
use mathlib.Core.List.{[], ◌∷◌}
use Prim.Native.Nat.{ℕ, ◌≤◌, ◌<◌}
use native.Mathlib.Omega.{arith}
use borrow.Author.Tests.{eqb-false, ne_eqb}
use lib.Dec.{eqb}
use lib.ListN.{length, get_or}
use Rattle.meaning.specs.Bytes.{Text, ◌and◌}
use Rattle.name.specs.Rules.{name_byte, rest_of_lock, after_dot, after_slash, after_at_sign, stands}

-- nothing follows neither a dot nor a slash, and may follow an `@`
pub dot-none : (s : Text) → length s < 1 → false ≡ after_dot s
unfolding after_dot
dot-none [] h = refl
dot-none (x ∷ s) h = absurd (omega arith)

pub slash-none : (s : Text) → length s < 1 → false ≡ after_slash s
unfolding after_slash
slash-none [] h = refl
slash-none (x ∷ s) h = absurd (omega arith)

pub at-none : (s : Text) → length s < 1 → true ≡ after_at_sign s
unfolding after_at_sign
at-none [] h = refl
at-none (x ∷ s) h = absurd (omega arith)

-- else the first byte says it
pub dot-dot : (s : Text) → 1 ≤ length s → get_or s 0 0 ≡ 46 → false ≡ after_dot s
unfolding after_dot
dot-dot [] h e = absurd (omega arith)
dot-dot (x ∷ s) h e = rw e

pub dot-lock : (s : Text) (r : Bool) → 1 ≤ length s → (get_or s 0 0 ≡ 46 → ⊥) → r ≡ rest_of_lock s → not r ≡ after_dot s
unfolding after_dot
dot-lock [] r h n e = absurd (omega arith)
dot-lock (x ∷ s) r h n e = rw (ne_eqb 46 x (λ q. n (sym q))) (ap not e)

pub slash-two : (s : Text) → 1 ≤ length s → 46 ≤ get_or s 0 0 → get_or s 0 0 < 48 → false ≡ after_slash s
unfolding after_slash
slash-two [] h m n = absurd (omega arith)
slash-two (x ∷ s) h m n = go (eqb 47 x) refl (eqb 46 x) refl
  where
    go : (a : Bool) → eqb 47 x ≡ a → (b : Bool) → eqb 46 x ≡ b → false ≡ (not (a and true) and not (b and true))
    go true e b f = refl
    go false e true f = refl
    go false e false f = absurd (let p : 47 ≡ x → ⊥ = eqb-false 47 x e in let q : 46 ≡ x → ⊥ = eqb-false 46 x f in omega arith)

pub slash-other : (s : Text) → 1 ≤ length s → (47 ≡ get_or s 0 0 → ⊥) → (46 ≡ get_or s 0 0 → ⊥) → true ≡ after_slash s
unfolding after_slash
slash-other [] h m n = absurd (omega arith)
slash-other (x ∷ s) h m n = rw (ne_eqb 47 x m, ne_eqb 46 x n)

pub at-brace : (s : Text) → 1 ≤ length s → get_or s 0 0 ≡ 123 → false ≡ after_at_sign s
unfolding after_at_sign
at-brace [] h e = absurd (omega arith)
at-brace (x ∷ s) h e = rw e

pub at-other : (s : Text) → 1 ≤ length s → (get_or s 0 0 ≡ 123 → ⊥) → true ≡ after_at_sign s
unfolding after_at_sign
at-other [] h n = absurd (omega arith)
at-other (x ∷ s) h n = rw (ne_eqb 123 x (λ q. n (sym q)))

-- a dot, a slash and an `@` stand by what follows them, and any other byte by itself
module _ (x : ℕ) (s : Text) (r : Bool) where
  pub stands-dot : x ≡ 46 → r ≡ after_dot s → r ≡ stands x s
  unfolding stands
  stands-dot e h = rw e h

  pub stands-slash : x ≡ 47 → r ≡ after_slash s → r ≡ stands x s
  unfolding stands
  stands-slash e h = rw e h

  pub stands_at : x ≡ 64 → r ≡ after_at_sign s → r ≡ stands x s
  unfolding stands
  stands_at e h = rw e h

  pub stands-other : (x ≡ 46 → ⊥) → (x ≡ 47 → ⊥) → (x ≡ 64 → ⊥) → r ≡ not (name_byte x) → not r ≡ stands x s
  unfolding stands
  stands-other d h a e = rw (ne_eqb 46 x (λ q. d (sym q)), ne_eqb 47 x (λ q. h (sym q)), ne_eqb 64 x (λ q. a (sym q)), e) (twice (name_byte x))
    where
      twice : (b : Bool) → not (not b) ≡ b
      twice true = refl
      twice false = refl
