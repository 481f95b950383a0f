-- The loop that writes a number: the bytes of what is left of the number make the whole. Assumes nothing.
use mathlib.Core.Path.{◌≡◌, refl}
use mathlib.Core.List.{[], ◌∷◌}
use Prim.Native.Nat.{ℕ, ◌+◌, ◌/◌, ◌%◌, ◌<◌, ◌≤◌}
use native.Mathlib.Omega.{arith}
use lib.ListN.{length, set}
use Rattle.meaning.specs.Bytes.{Text}
use Rattle.meaning.specs.Number.{number_bytes}
use Rattle.promises.proofs.Reading.{number-long}
use Rattle.buffer.specs.Splice.{splice}
use Rattle.buffer.proofs.Splices.{splice-byte}
use Rattle.buffer.proofs.Writing.{Writing, writing-starts, writing_more, written-place, written-whole}
use Rattle.meaning.specs.Limits.{largest_number}
use Rattle.number.proofs.Bytes.{bytes-last, bytes-more}

-- n is being written into d from `at` on; at i the bytes of `rest` are left
pub record Putting (d : Text) (at n : ℕ) (out : Text) (i rest : ℕ) : Type 0 where
  pub small : rest ≤ largest_number
  pub writing : Writing d at (number_bytes n) out i (number_bytes rest)

-- nothing is written yet
pub putting-starts : (d : Text) (at n : ℕ) → n ≤ largest_number → at + length (number_bytes n) ≤ length d → Putting d at n d at n
putting-starts d at n h k = record { small = h; writing = writing-starts d at (number_bytes n) k }

module _ (d : Text) (at n : ℕ) (out : Text) (i rest : ℕ) (p : Putting d at n out i rest) where
  -- a byte is left at least
  pub putting-room : i < length out
  putting-room = omega (arith, number-long rest, p.writing.ends, p.writing.kept, p.writing.fits)

  -- a byte that is stored, where it is the first of those that are left
  stored : (b : ℕ) (left : Text) → number_bytes rest ≡ b ∷ left → Writing d at (number_bytes n) (set out i b) (i + 1) left
  stored b left e = writing_more d at (number_bytes n) out i (number_bytes rest) p.writing (b ∷ []) left e (set out i b) (i + 1) (splice-byte out i b putting-room) refl

  -- a group that more follow
  pub putting-more : 128 ≤ rest → Putting d at n (set out i (128 + rest % 128)) (i + 1) (rest / 128)
  putting-more m = record {
    small = omega (arith, p.small);
    writing = stored (128 + rest % 128) (number_bytes (rest / 128)) (bytes-more rest m p.small);
  }

  -- the last group
  last_stored : rest < 128 → Writing d at (number_bytes n) (set out i rest) (i + 1) []
  last_stored l = stored rest [] (bytes-last rest l)

  pub put-ends : rest < 128 → i + 1 ≡ at + length (number_bytes n)
  put-ends l = written-place d at (number_bytes n) (set out i rest) (i + 1) [] (last_stored l) refl

  pub put_whole : rest < 128 → set out i rest ≡ splice d at (number_bytes n)
  put_whole l = written-whole d at (number_bytes n) (set out i rest) (i + 1) [] (last_stored l) refl
