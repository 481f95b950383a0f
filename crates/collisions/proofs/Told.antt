-- A destination that is told stands in its buffer. Assumes nothing.
use Prim.Native.Nat.{ℕ, ◌≤◌}
use mathlib.Core.Path.{◌≡◌, ap}
use native.Mathlib.Omega.{arith}
use lib.ListN.{length, length-take}
use Rattle.meaning.specs.Bytes.{Text}
use Rattle.meaning.specs.Buffers.{MeetsMaybe}
use Rattle.meaning.specs.Collide.{collide_bytes}
use Rattle.promises.specs.Terms.{MaybeCall}
use Rattle.promises.specs.CollisionCalls.{ToldOf, told_first, told_second, told_no, told_yes, told_short}
use Rattle.promises.proofs.CollisionCalls.{report-told}

module _ (t u entry exit : Text) (refusal which mark size : ℕ) (m : MeetsMaybe (collide_bytes t u) entry exit refusal which mark size) (yes : mark ≡ 0 → ⊥) where
  call : MaybeCall
  call = record { before = entry; after = exit; refusal = refusal; record_number = which; mark = mark; size = size }

  pub told-within : size ≤ length exit
  unfolding call
  told-within = go (report-told t u call m)
    where
      go : ToldOf t u call → size ≤ length exit
      go (told_first n k h e a) = absurd (yes a.unmarked)
      go (told_second s n k h e f a) = absurd (yes a.unmarked)
      go (told_no s r h f a) = absurd (yes a.unmarked)
      go (told_yes s r d h w v a) = omega (arith, length-take size exit, ap length a.bytes_left.front, a.bytes_left.size_is)
      go (told_short s r d h w v a) = absurd (yes a.unmarked)
