-- A number at a place, from the byte that stands there. Assumes nothing.
use mathlib.Core.Path.{◌≡◌}
use mathlib.Core.List.{◌∷◌}
use Prim.Native.Nat.{ℕ, suc, ◌+◌, ◌-◌, ◌*◌, ◌<◌, ◌≤◌}
use native.Mathlib.Omega.{arith}
use native.Mathlib.Numerals.{add-one}
use borrow.Author.Tests.{lt-ltb, le-ltb, eq-eqb, ne_eqb}
use lib.ListN.{length, get_or, drop, length-drop, drop_of_length-le}
use lib.Seq.{drop-cons}
use Rattle.meaning.specs.Bytes.{Text}
use Rattle.meaning.specs.Number.{took, step_then, group_before, read_groups, read_number}
use Rattle.number.specs.declared.Number.{Number}
use Rattle.number.specs.Reading.{number_is, found_at, number_at, after_one, after_two}
use Rattle.std.specs.Prelude.{Option, None}

cons : (s : Text) (at : ℕ) → at < length s → drop at s ≡ get_or s at 0 ∷ drop (at + 1) s
cons s at h = rw (add-one, drop-cons s at 0)

next : (s : Text) (at : ℕ) → at < length s → length s - length (drop (at + 1) s) ≡ at + 1
next s at h = rw (length-drop (at + 1) s) (omega arith)

-- at or past the end there is none
module _ (s : Text) (at : ℕ) (past : length s ≤ at) where
  pub one_end : None ≡ number_at s at
  unfolding number_at read_number
  one_end = rw (drop_of_length-le s past)

  pub two-end : (a : ℕ) → None ≡ found_at (after_one a) s at
  two-end a = rw (drop_of_length-le s past)

  pub three-end : (a b : ℕ) → None ≡ found_at (after_two a b) s at
  three-end a b = rw (drop_of_length-le s past)

-- before the end, by the byte w that stands there
module _ (s : Text) (at : ℕ) (within : at < length s) (w : ℕ) (byte : w ≡ get_or s at 0) where
  here : drop at s ≡ w ∷ drop (at + 1) s
  here = rw byte (cons s at within)

  last-group : (k : ℕ) → w < 128 → read_groups (suc k) (drop at s) ≡ took w (drop (at + 1) s)
  last-group k l = rw (here, lt-ltb w 128 l)

  more-groups : (k : ℕ) → 128 ≤ w → read_groups (suc k) (drop at s) ≡ step_then (read_groups k (drop (at + 1) s)) (group_before w)
  more-groups k m = rw (here, le-ltb w 128 m)

  -- the last group
  pub one_last : w < 128 → number_is w (at + 1) ≡ number_at s at
  unfolding number_at read_number
  one_last l = rw (last-group 2 l, next s at within)

  pub two-last : (a : ℕ) → w < 128 → (w ≡ 0 → ⊥) → number_is (a - 128 + w * 128) (at + 1) ≡ found_at (after_one a) s at
  two-last a l z = rw (last-group 1 l, ne_eqb w 0 z, next s at within)

  pub three-last : (a b : ℕ) → w < 128 → (w ≡ 0 → ⊥) → number_is (a - 128 + (b - 128 + w * 128) * 128) (at + 1) ≡ found_at (after_two a b) s at
  three-last a b l z =
      let y : b - 128 + w * 128 ≡ 0 → ⊥ = λ e. z (omega arith) in
      rw (last-group 0 l, ne_eqb w 0 z, ne_eqb (b - 128 + w * 128) 0 y, next s at within)

  -- a last group that others stand before is not 0
  pub two-zero : (a : ℕ) → w ≡ 0 → None ≡ found_at (after_one a) s at
  two-zero a z = let l : w < 128 = omega arith in rw (last-group 1 l, eq-eqb w 0 z)

  pub three-zero : (a b : ℕ) → w ≡ 0 → None ≡ found_at (after_two a b) s at
  three-zero a b z = let l : w < 128 = omega arith in rw (last-group 0 l, eq-eqb w 0 z)

  -- more follow
  pub one_more : (r : Option Number) → 128 ≤ w → r ≡ found_at (after_one w) s (at + 1) → r ≡ number_at s at
  unfolding number_at read_number
  one_more r m e = rw (more-groups 2 m) e

  pub two-more : (a : ℕ) (r : Option Number) → 128 ≤ w → r ≡ found_at (after_two a w) s (at + 1) → r ≡ found_at (after_one a) s at
  two-more a r m e = rw (more-groups 1 m) e

  -- a fourth group is none
  pub three-more : (a b : ℕ) → 128 ≤ w → None ≡ found_at (after_two a b) s at
  three-more a b m = rw (more-groups 0 m)
