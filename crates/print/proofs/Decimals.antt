-- The digits of a number, the last one after those of its quotient. Assumes nothing.
use mathlib.Core.Path.{◌≡◌, refl, sym}
use mathlib.Core.Bool.{Bool, true, false, cond}
use mathlib.Core.List.{[], ◌∷◌, ◌++◌}
use Prim.Native.Nat.{ℕ, zero, suc, ◌+◌, ◌-◌, ◌/◌, ◌%◌, ◌<◌, ◌≤◌}
use native.Mathlib.Omega.{arith}
use borrow.Author.Tests.{lt-ltb, le-ltb}
use lib.Dec.{ltb}
use lib.ListN.{length, length-append}
use Rattle.meaning.specs.Bytes.{Text}
use Rattle.meaning.specs.Limits.{decimal_digits}
use Rattle.meaning.specs.Deliveries.{digits, decimal}
use Rattle.buffer.specs.Splice.{splice}
use Rattle.buffer.proofs.Splices.{splice-none}
use Rattle.buffer.proofs.Pairs.{pair-first, pair_put, pair_end}

-- a number below 10 is one digit
one-digit : (k n : ℕ) → (k ≡ 0 → ⊥) → n < 10 → digits k n ≡ (48 + n % 10) ∷ []
one-digit zero n z h = absurd (z refl)
one-digit (suc k) n z h = let e : n % 10 ≡ n = omega arith in rw (lt-ltb n 10 h, e)

-- any other has its last digit after those of its quotient
more-digits : (k n : ℕ) → (k ≡ 0 → ⊥) → 10 ≤ n → digits k n ≡ digits (k - 1) (n / 10) ++ ((48 + n % 10) ∷ [])
more-digits zero n z h = absurd (z refl)
more-digits (suc k) n z h = let e : suc k - 1 ≡ k = omega arith in rw (le-ltb n 10 h, e)

-- with no digits nothing is written
pub none-put : (d : Text) (at k n : ℕ) → k ≡ 0 → d ≡ splice d at (digits k n)
none-put d at k n e = rw e (sym (splice-none d at))

pub none-ends : (at k n : ℕ) → k ≡ 0 → at ≡ at + length (digits k n)
none-ends at k n e = rw e (omega arith)

module _ (d : Text) (at k n : ℕ) (fits : at + length (digits k n) ≤ length d) (some : k ≡ 0 → ⊥) where
  -- one digit
  module _ (small : n < 10) where
    one-length : length (digits k n) ≡ 1
    one-length = rw (one-digit k n some small)

    pub one-room : at < length d
    one-room = omega (arith, one-length)

    pub one-put : (b : ℕ) → b ≡ 48 + n % 10 → (o : Text) → o ≡ splice d at (b ∷ []) → o ≡ splice d at (digits k n)
    one-put b eb o e = rw (one-digit k n some small, ← eb) e

  -- more than one
  module _ (large : 10 ≤ n) where
    pieces : digits k n ≡ digits (k - 1) (n / 10) ++ ((48 + n % 10) ∷ [])
    pieces = more-digits k n some large

    both : at + length (digits (k - 1) (n / 10) ++ ((48 + n % 10) ∷ [])) ≤ length d
    both = rw pieces at fits

    pub first-room : at + length (digits (k - 1) (n / 10)) ≤ length d
    first-room = pair-first d at (digits (k - 1) (n / 10)) ((48 + n % 10) ∷ []) both

    module _ (o : Text) (i : ℕ) (eo : o ≡ splice d at (digits (k - 1) (n / 10))) (ei : i ≡ at + length (digits (k - 1) (n / 10))) where
      pub digits-put : (b : ℕ) → b ≡ 48 + n % 10 → (p : Text) → p ≡ splice o i (b ∷ []) → p ≡ splice d at (digits k n)
      digits-put b eb p e = rw (pieces) (pair_put d at (digits (k - 1) (n / 10)) ((48 + n % 10) ∷ []) both o i eo ei p (rw (← eb) e))

      pub digits-end : (r : ℕ) → r ≡ i + 1 → r ≡ at + length (digits k n)
      digits-end r e = rw pieces (pair_end d at (digits (k - 1) (n / 10)) ((48 + n % 10) ∷ []) both o i eo ei r e)

-- how many digits there are
pub none-counted : (k n : ℕ) → k ≡ 0 → 0 ≡ length (digits k n)
none-counted k n e = rw e refl

module _ (k n : ℕ) (some : k ≡ 0 → ⊥) where
  pub one-counted : n < 10 → 1 ≡ length (digits k n)
  one-counted h = rw (one-digit k n some h) refl

-- never more than are asked for
pub digits-few : (k n : ℕ) → length (digits k n) ≤ k
digits-few zero n = omega arith
digits-few (suc k) n = go (digits-few k (n / 10)) (ltb n 10)
  where
    go : length (digits k (n / 10)) ≤ k → (b : Bool) → length (cond {A = Text} b ((48 + n) ∷ []) (digits k (n / 10) ++ ((48 + n % 10) ∷ []))) ≤ suc k
    go h true = omega arith
    go h false = omega (arith, length-append (digits k (n / 10)) ((48 + n % 10) ∷ []))

pub decimal-few : (n : ℕ) → length (decimal n) ≤ decimal_digits
unfolding decimal
decimal-few n = digits-few decimal_digits n
