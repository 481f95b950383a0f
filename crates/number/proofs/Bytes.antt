-- The bytes of a number, from the number's size. Assumes nothing.
use mathlib.Core.Path.{◌≡◌, ◌∙◌}
use mathlib.Core.Bool.{Bool, true, false, cond}
use mathlib.Core.List.{[], ◌∷◌}
use Prim.Native.Nat.{ℕ, zero, suc, ◌+◌, ◌-◌, ◌/◌, ◌%◌, ◌^◌, ◌<◌, ◌≤◌}
use native.Mathlib.Omega.{arith}
use borrow.Author.Tests.{lt-ltb, le-ltb}
use lib.Dec.{ltb}
use lib.ListN.{length}
use Rattle.meaning.specs.Bytes.{Text}
use Rattle.meaning.specs.Number.{groups, number_bytes}
use Rattle.meaning.specs.Limits.{largest_number, number_groups}

-- below 128 a number is its own byte
pub bytes-last : (n : ℕ) → n < 128 → number_bytes n ≡ n ∷ []
unfolding number_bytes
bytes-last n h = simp (lt-ltb n 128 h)

-- where so many groups are enough, one more changes nothing
group-spare : (k n : ℕ) → n < 128 ^ suc k → groups (suc k) n ≡ groups (suc (suc k)) n
group-spare zero n h = simp (lt-ltb n 128 (omega arith))
group-spare (suc k) n h = rw (group-spare k (n / 128) (omega arith))

first_group : (n : ℕ) → 128 ≤ n → number_bytes n ≡ (128 + n % 128) ∷ groups (number_groups - 1) (n / 128)
unfolding number_bytes
first_group n h = simp (le-ltb n 128 h)

-- from 128 on, the lowest group stands before the bytes of the quotient
pub bytes-more : (n : ℕ) → 128 ≤ n → n ≤ largest_number → number_bytes n ≡ (128 + n % 128) ∷ number_bytes (n / 128)
unfolding number_bytes
bytes-more n h k = first_group n h ∙ rw (group-spare (number_groups - 2) (n / 128) (omega arith))

-- how many bytes there are
pub size-one : (n : ℕ) → n < 128 → 1 ≡ length (number_bytes n)
size-one n h = rw (bytes-last n h)

pub size-two : (n : ℕ) → 128 ≤ n → n < 128 ^ 2 → 2 ≡ length (number_bytes n)
size-two n h k =
    let a : n ≤ largest_number = omega arith in
    let b : n / 128 < 128 = omega arith in
    rw (bytes-more n h a, bytes-last (n / 128) b)

pub size-three : (n : ℕ) → 128 ^ 2 ≤ n → n ≤ largest_number → 3 ≡ length (number_bytes n)
size-three n h k =
    let a : 128 ≤ n = omega arith in
    let b : 128 ≤ n / 128 = omega arith in
    let d : n / 128 ≤ largest_number = omega arith in
    let e : n / 128 / 128 < 128 = omega arith in
    rw (bytes-more n a k, bytes-more (n / 128) b d, bytes-last (n / 128 / 128) e)

-- never more than a number may have
groups-few : (k n : ℕ) → length (groups k n) ≤ k
groups-few zero n = omega arith
groups-few (suc k) n = go (groups-few k (n / 128)) (ltb n 128)
  where
    go : length (groups k (n / 128)) ≤ k → (b : Bool) → length (cond {A = Text} b (n ∷ []) ((128 + n % 128) ∷ groups k (n / 128))) ≤ suc k
    go h true = omega arith
    go h false = omega arith

pub bytes-few : (n : ℕ) → length (number_bytes n) ≤ number_groups
unfolding number_bytes
bytes-few n = groups-few number_groups n
