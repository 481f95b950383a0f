-- What is measured, and what is left to be measured, make the whole. Assumes nothing.
use mathlib.Core.Path.{◌≡◌, ap}
use mathlib.Core.List.{[], ◌++◌}
use Prim.Native.Nat.{ℕ, suc, ◌+◌, ◌*◌, ◌≤◌}
use native.Mathlib.Omega.{arith}
use native.Mathlib.Numerals.{add-one}
use lib.ListN.{length, length-append}
use Rattle.meaning.specs.Bytes.{Text}

-- what k members took is measured, at most b each, and left is what follows
pub record Counted (whole : Text) (size : ℕ) (left : Text) (k b : ℕ) : Type 0 where
  pub done : size + length left ≡ length whole
  pub small : size ≤ k * b

pub counted-starts : (whole left : Text) (b : ℕ) → whole ≡ left → (k : ℕ) → Counted whole 0 left k b
counted-starts whole left b e k = record { done = omega (arith, ap length e); small = omega arith }

module _ (whole : Text) (size : ℕ) (left : Text) (k b : ℕ) (c : Counted whole size left k b) where
  pub counted-more : (t rest : Text) → left ≡ t ++ rest → (n : ℕ) → n ≡ length t → n ≤ b → Counted whole (size + n) rest (k + 1) b
  counted-more t rest e n h g =
      record {
        done = omega (arith, ap length e, length-append t rest, c.done);
        small = let m : (k + 1) * b ≡ k * b + b = rw (add-one k) (suc-times k b) in omega (arith, c.small);
      }
    where
      suc-times : (k b : ℕ) → suc k * b ≡ k * b + b
      suc-times k b = omega arith

  -- members that take nothing are passed over
  pub counted-on : (rest : Text) → left ≡ rest → (j : ℕ) → k * b ≤ j * b → Counted whole size rest j b
  counted-on rest e j h = record { done = rw (← e) c.done; small = omega (arith, c.small) }

  pub counted-whole : left ≡ [] → size ≡ length whole
  counted-whole e = let h : length left ≡ 0 = ap length e in omega (arith, c.done)
