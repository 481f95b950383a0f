-- A text written in lower case, byte by byte. Assumes nothing.
use mathlib.Core.Path.{◌≡◌, refl, sym, ◌∙◌}
use Prim.Native.Nat.{ℕ, ◌+◌, ◌≤◌, ◌<◌}
use native.Mathlib.Numerals.{add-one}
use native.Mathlib.Omega.{arith}
use borrow.Author.Tests.{le-leb, lt-leb, ltb-true, ltb-false}
use mathlib.Core.Bool.{Bool, true, false, cond}
use lib.Dec.{ltb}
use Rattle.std.specs.Char.{to_ascii_lowercase}
use lib.ListN.{length, set, get_or, length-set, length-map, get_or-map}
use lib.Seq.{paste, paste-zero, paste-suc}
use Rattle.meaning.specs.Bytes.{Text, lower_byte, lower}
use Rattle.buffer.specs.Splice.{splice}
use Rattle.buffer.proofs.Splices.{splice-paste}

-- a capital letter
pub lower-capital : (b : ℕ) → 65 ≤ b → b < 91 → b + 32 ≡ lower_byte b
lower-capital b l h = rw (le-leb 65 b l, le-leb b 90 (omega arith))

-- a byte before the capital letters
pub lower-before : (b : ℕ) → b < 65 → b ≡ lower_byte b
lower-before b h = rw (lt-leb 65 b h)

-- a byte after them
pub lower-after : (b : ℕ) → 90 < b → b ≡ lower_byte b
lower-after b h = rw (le-leb 65 b (omega arith), lt-leb b 90 h)

-- std's lower case of a byte
pub lower-std : (b : ℕ) → to_ascii_lowercase b ≡ lower_byte b
lower-std b = go (ltb b 65) (ltb b 91) refl refl
  where
    go : (p q : Bool) → ltb b 65 ≡ p → ltb b 91 ≡ q → cond p b (cond q (b + 32) b) ≡ lower_byte b
    go true q e f = lower-before b (ltb-true b 65 e)
    go false true e f = lower-capital b (ltb-false b 65 e) (ltb-true b 91 f)
    go false false e f = lower-after b (omega (arith, ltb-false b 91 f))

-- a text in lower case has as many bytes
pub lower-length : (s : Text) → length (lower s) ≡ length s
lower-length s = length-map s lower_byte

-- the text s is written into d from `at` on as far as its byte i, where out is the buffer now
pub record Lowering (d : Text) (at : ℕ) (s out : Text) (i : ℕ) : Type 0 where
  pub fits : at + length s ≤ length d
  pub passed : i ≤ length s
  pub kept : length out ≡ length d
  pub copied : out ≡ paste d at (lower s) i

-- nothing is written at the start
pub lowering-starts : (d : Text) (at : ℕ) (s : Text) → at + length s ≤ length d → Lowering d at s d 0
lowering-starts d at s h = record { fits = h; passed = omega arith; kept = refl; copied = paste-zero d at (lower s) }

module _ (d : Text) (at : ℕ) (s out : Text) (i : ℕ) (w : Lowering d at s out i) where
  -- one byte more
  pub lowering-more : i < length s → (b : ℕ) → b ≡ lower_byte (get_or s i 0) → Lowering d at s (set out (at + i) b) (i + 1)
  lowering-more h b e =
      let v : b ≡ get_or (lower s) i 0 = e ∙ sym (get_or-map lower_byte s i 0) in
      record {
        fits = w.fits;
        passed = omega arith;
        kept = length-set out (at + i) b ∙ w.kept;
        copied = rw (add-one i, w.copied, v) (paste-suc d at (lower s) i 0 (omega (arith, w.fits)) (omega (arith, lower-length s)));
      }

  -- after the last all is written
  pub lowering-put : length s ≤ i → out ≡ splice d at (lower s)
  lowering-put h = w.copied ∙ splice-paste d at (lower s) i (omega (arith, w.passed, lower-length s))

  -- and ends there
  pub lowering-ends : length s ≤ i → at + i ≡ at + length (lower s)
  lowering-ends h = omega (arith, w.passed, lower-length s)
