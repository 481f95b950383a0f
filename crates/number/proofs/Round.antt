-- What is written is read back, and nothing else is read as it. Assumes nothing.
use mathlib.Core.Path.{◌≡◌, refl, ap}
use mathlib.Core.Bool.{Bool, true, false, cond}
use mathlib.Core.List.{[], ◌∷◌, ◌++◌}
use Prim.Native.Nat.{ℕ, zero, suc, ◌+◌, ◌-◌, ◌*◌, ◌/◌, ◌%◌, ◌^◌, ◌<◌, ◌≤◌}
use native.Mathlib.Omega.{arith}
use borrow.Author.Tests.{lt-ltb, le-ltb, ltb-true, ltb-false, eqb-false}
use mir.Val.{Fits}
use mir.Syntax.{w8}
use lib.Dec.{eqb, ltb}
use lib.ListN.{get_or}
use Rattle.meaning.specs.Bytes.{Text}
use Rattle.meaning.specs.Number.{groups, number_bytes, Step, took, no, step_then, group_before, read_groups, read_number}
use Rattle.promises.proofs.Reading.{read_number_lem}
use Rattle.meaning.specs.Limits.{largest_number, number_groups}
use Rattle.number.specs.Reading.{Octets}
use Rattle.number.proofs.Answers.{none-taken}

-- every byte of a slice is one, as a function knows it
pub octets-of : (s : Text) → ((i : ℕ) → Fits w8 (get_or s i 0)) → Octets s
octets-of s h i = omega (arith, h i)

-- the bytes of a number, whatever follows them, are read as it
pub read_back : (n : ℕ) (rest : Text) → n ≤ largest_number → read_number (number_bytes n ++ rest) ≡ took n rest
read_back n rest h = read_number_lem n rest h

some-power : (k : ℕ) → 0 < 128 ^ k
some-power zero = omega arith
some-power (suc k) = let h = some-power k in omega arith

-- what is read as n in at most k groups
record Only (k : ℕ) (s : Text) (n : ℕ) (rest : Text) : Type 0 where
  spelled : s ≡ groups k n ++ rest
  small : n < 128 ^ k

only-last : (k b n : ℕ) (t rest : Text) → b < 128 → took b t ≡ took n rest → Only (suc k) (b ∷ t) n rest
only-last k b n t rest l e =
    let p : b ≡ n = cc in
    let q : t ≡ rest = cc in
    let m : n < 128 = omega arith in
    record { spelled = rw (lt-ltb n 128 m) (cc); small = omega (arith, some-power k) }

only-more : (k b m n : ℕ) (t r rest : Text) → 128 ≤ b → b < 256 → Only k t m r → group_before b m r ≡ took n rest → Only (suc k) (b ∷ t) n rest
only-more k b m n t r rest l u o e = go (eqb m 0) refl e
  where
    go : (z : Bool) → eqb m 0 ≡ z → cond z (no 13) (took (b - 128 + m * 128) r) ≡ took n rest → Only (suc k) (b ∷ t) n rest
    go true f g = none-taken 13 n rest g
    go false f g =
        let p : b - 128 + m * 128 ≡ n = cc in
        let q : r ≡ rest = cc in
        let z : m ≡ 0 → ⊥ = eqb-false m 0 f in
        let big : 128 ≤ n = omega arith in
        let low : 128 + n % 128 ≡ b = omega arith in
        let high : n / 128 ≡ m = omega arith in
        record { spelled = rw (le-ltb n 128 big, low, high, ← q) (ap (λ (x : Text). b ∷ x) o.spelled); small = omega (arith, o.small) }

only : (k : ℕ) (s : Text) (n : ℕ) (rest : Text) → Octets s → read_groups k s ≡ took n rest → Only k s n rest
only zero s n rest o e = none-taken 13 n rest e
only (suc k) [] n rest o e = none-taken 13 n rest e
only (suc k) (b ∷ t) n rest o e = go (λ m r f. only k t m r (λ i. o (suc i)) f) (ltb b 128) refl e
  where
    Known : Type 0
    Known = (m : ℕ) (r : Text) → read_groups k t ≡ took m r → Only k t m r

    step : Known → 128 ≤ b → (a : Step ℕ) → read_groups k t ≡ a → step_then a (group_before b) ≡ took n rest → Only (suc k) (b ∷ t) n rest
    step h l (took m r) f g = only-more k b m n t r rest l (o 0) (h m r f) g
    step h l (no j) f g = none-taken j n rest g

    go : Known → (z : Bool) → ltb b 128 ≡ z → cond z (took b t) (step_then (read_groups k t) (group_before b)) ≡ took n rest → Only (suc k) (b ∷ t) n rest
    go h true f g = only-last k b n t rest (ltb-true b 128 f) g
    go h false f g = step h (ltb-false b 128 f) (read_groups k t) refl g

-- nothing but its bytes is read as a number
pub read_only : (s : Text) (n : ℕ) (rest : Text) → Octets s → read_number s ≡ took n rest → s ≡ number_bytes n ++ rest
unfolding read_number number_bytes
read_only s n rest o e = (only number_groups s n rest o e).spelled

-- and no number above the largest is read
pub read_small : (s : Text) (n : ℕ) (rest : Text) → Octets s → read_number s ≡ took n rest → n ≤ largest_number
unfolding read_number
read_small s n rest o e = omega (arith, (only number_groups s n rest o e).small)
