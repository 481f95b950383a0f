-- A text in print, byte by byte. Assumes nothing.
use mathlib.Core.Path.{◌≡◌, ap}
use mathlib.Core.List.{[], ◌∷◌, ◌++◌}
use Prim.Native.Nat.{ℕ, ◌+◌, ◌*◌, ◌/◌, ◌%◌, ◌<◌, ◌≤◌}
use native.Mathlib.Omega.{arith}
use mir.Val.{Fits}
use mir.Syntax.{w64}
use lib.ListN.{length, get_or, drop, length-append}
use Rattle.meaning.specs.Bytes.{Text, each}
use Rattle.meaning.specs.Limits.{program_bytes}
use Rattle.meaning.specs.Deliveries.{capital_digit, shown_byte, shown}
use Rattle.buffer.specs.Splice.{splice}
use Rattle.text.proofs.Rests.{rest-cons, rest_end}
use Rattle.buffer.proofs.Pairs.{pair-second, pair_put, pair_end}
use Rattle.buffer.proofs.Threes.{three-put}
use Rattle.buffer.proofs.Writing.{Writing, writing-starts, writing_more, written-place, written-whole}
use Rattle.print.specs.Lines.{coded}

-- `%` and two digits, one after the other
pub code_put :
    (d : Text) (at b : ℕ) → at + 3 ≤ length d
    → (o : Text) (i : ℕ) → o ≡ splice d at (37 ∷ []) → i ≡ at + 1
    → (x : ℕ) → x ≡ capital_digit (b / 16)
    → (p : Text) (j : ℕ) → p ≡ splice o i (x ∷ []) → j ≡ i + 1
    → (y : ℕ) → y ≡ capital_digit (b % 16)
    → (q : Text) → q ≡ splice p j (y ∷ []) → q ≡ splice d at (coded b)
unfolding coded
code_put d at b fits o i eo ei x ex p j ep ej y ey q eq = rw (← ex, ← ey) (three-put d at (37 ∷ []) (x ∷ []) (y ∷ []) fits o i eo ei p j ep ej q eq)

-- what is left of a text from a place on, in print
abbrev pub left : Text → ℕ → Text
left t i = each (drop i t) shown_byte

left-next : (t : Text) (i : ℕ) → i < length t → left t i ≡ shown_byte (get_or t i 0) ++ left t (i + 1)
left-next t i h = rw (rest-cons t i h)

left_end : (t : Text) (i : ℕ) → length t ≤ i → left t i ≡ []
left_end t i h = rw (rest_end t i h)

-- a text is measured as far as byte i
pub record Measured (t : Text) (size i : ℕ) : Type 0 where
  pub within : i ≤ length t
  pub small : size ≤ 3 * i + 1
  pub whole : size + length (left t i) ≡ length (shown t)

-- only `=` at the start
pub measured-starts : (t : Text) → Measured t 1 0
unfolding shown
measured-starts t = record { within = omega arith; small = omega arith; whole = omega arith }

module _ (t : Text) (size i : ℕ) (m : Measured t size i) where
  -- one byte more
  pub measured-more : i < length t → (n : ℕ) → n ≡ length (shown_byte (get_or t i 0)) → n ≤ 3 → Measured t (size + n) (i + 1)
  measured-more h n e l = record {
    within = omega arith;
    small = omega (arith, m.small);
    whole = omega (arith, m.whole, ap length (left-next t i h), length-append (shown_byte (get_or t i 0)) (left t (i + 1)));
  }

  -- whose sum a machine's number holds
  pub measured-fits : length t ≤ program_bytes → (n : ℕ) → n ≤ 3 → Fits w64 (size + n)
  measured-fits l n h = omega (arith, m.small, m.within)

  -- after the last all is measured
  pub measured-whole : length t ≤ i → size ≡ length (shown t)
  measured-whole h = let e : length (left t i) ≡ 0 = ap length (left_end t i h) in omega (arith, m.whole)

-- the bytes of a text are written as far as byte i
pub record Showing (d : Text) (at : ℕ) (t out : Text) (end i : ℕ) : Type 0 where
  pub within : i ≤ length t
  pub writing : Writing d at (left t 0) out end (left t i)

module _ (d : Text) (at : ℕ) (t out : Text) (end i : ℕ) (s : Showing d at t out end i) where
  -- one byte more
  pub showing-more : i < length t → (next : Text) (j : ℕ) → next ≡ splice out end (shown_byte (get_or t i 0)) → j ≡ end + length (shown_byte (get_or t i 0)) → Showing d at t next j (i + 1)
  showing-more h next j p e = record {
    within = omega arith;
    writing = writing_more d at (left t 0) out end (left t i) s.writing (shown_byte (get_or t i 0)) (left t (i + 1)) (left-next t i h) next j p e;
  }

-- `=` stands before them
module _ (d : Text) (at : ℕ) (t : Text) (fits : at + length (shown t) ≤ length d) where
  both : at + length ((61 ∷ []) ++ left t 0) ≤ length d
  unfolding shown
  both = fits

  pub sign-room : at < length d
  sign-room = omega (arith, both)

  module _ (d₁ : Text) (at₁ : ℕ) (p : d₁ ≡ splice d at (61 ∷ [])) (e : at₁ ≡ at + 1) where
    -- only `=` is written at the start
    pub showing-starts : Showing d₁ at₁ t d₁ at₁ 0
    showing-starts = record { within = omega arith; writing = writing-starts d₁ at₁ (left t 0) (pair-second d at (61 ∷ []) (left t 0) both d₁ at₁ p e) }

    module _ (out : Text) (end i : ℕ) (s : Showing d₁ at₁ t out end i) (h : length t ≤ i) where
      -- after the last all is written
      pub shown-put : out ≡ splice d at (shown t)
      unfolding shown
      shown-put = pair_put d at (61 ∷ []) (left t 0) both d₁ at₁ p e out (written-whole d₁ at₁ (left t 0) out end (left t i) s.writing (left_end t i h))

      pub shown-ends : end ≡ at + length (shown t)
      unfolding shown
      shown-ends = pair_end d at (61 ∷ []) (left t 0) both d₁ at₁ p e end (written-place d₁ at₁ (left t 0) out end (left t i) s.writing (left_end t i h))
