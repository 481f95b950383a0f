-- A printed number spells itself. Assumes nothing.
use mathlib.Core.Path.{◌≡◌, refl}
use mathlib.Core.Bool.{Bool, true, false, cond}
use mathlib.Core.List.{[], ◌∷◌, ◌++◌}
use Prim.Native.Nat.{ℕ, zero, suc, ◌+◌, ◌-◌, ◌*◌, ◌/◌, ◌%◌, ◌^◌, ◌<◌}
use native.Mathlib.Omega.{arith}
use borrow.Author.Tests.{lt-ltb}
use lib.Dec.{ltb}
use Rattle.meaning.specs.Bytes.{Text}
use Rattle.meaning.specs.Limits.{decimal_digits}
use Rattle.meaning.specs.Deliveries.{digits, decimal}
use Rattle.promises.specs.Facts.{spelled_after, DecimalReads}

-- one more digit
spelled-more : (n : ℕ) (s : Text) (x : ℕ) → spelled_after n (s ++ (x ∷ [])) ≡ spelled_after n s * 10 + (x - 48)
spelled-more n [] x = refl
spelled-more n (y ∷ s) x = spelled-more (n * 10 + (y - 48)) s x

-- a number of at most k + 1 digits spells itself
digits-spell : (k n : ℕ) → n < 10 ^ suc k → spelled_after 0 (digits (suc k) n) ≡ n
digits-spell zero n h = let v : 0 * 10 + (48 + n - 48) ≡ n = omega arith in rw (lt-ltb n 10 (omega arith)) v
digits-spell (suc k) n h = go (digits-spell k (n / 10) (omega arith)) (ltb n 10) refl
  where
    go : spelled_after 0 (digits (suc k) (n / 10)) ≡ n / 10 → (b : Bool) → ltb n 10 ≡ b → spelled_after 0 (cond b ((48 + n) ∷ []) (digits (suc k) (n / 10) ++ ((48 + n % 10) ∷ []))) ≡ n
    go ih true e = omega arith
    go ih false e = let v : n / 10 * 10 + (48 + n % 10 - 48) ≡ n = omega arith in rw (spelled-more 0 (digits (suc k) (n / 10)) (48 + n % 10), ih) v

-- a printed number spells itself
pub decimal-reads : DecimalReads
unfolding decimal
decimal-reads n h = digits-spell (decimal_digits - 1) n (omega arith)
