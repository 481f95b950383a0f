-- Texts at places of a row list. Assumes nothing.
use mathlib.Core.Path.{◌≡◌, ap}
use Prim.Native.Nat.{ℕ, ◌+◌, ◌-◌, ◌≤◌}
use native.Mathlib.Omega.{arith}
use lib.ListN.{length, take, drop, length-drop}
use lib.Seq.{length-take-le}
use Rattle.meaning.specs.Bytes.{Text}
use Rattle.parse.specs.Places.{part_at}

-- the bytes from a place to its end
pub part-is : (s : Text) (a n : ℕ) → take (a + n - a) (drop a s) ≡ part_at s a n
part-is s a n = let h : a + n - a ≡ n = omega arith in ap (λ k. take k (drop a s)) h

-- a text within its list has as many bytes as it says
pub part-long : (s : Text) (a n : ℕ) → a + n ≤ length s → length (part_at s a n) ≡ n
part-long s a n h = length-take-le n (drop a s) (rw (length-drop a s) (omega arith))
