-- The candidates of a partial name, number by number. Assumes nothing.
use mathlib.Core.Path.{◌≡◌, refl, sym, ap}
use mathlib.Core.List.{[], ◌∷◌, ◌++◌}
use Prim.Native.Nat.{ℕ, zero, suc, ◌+◌, ◌*◌, ◌<◌, ◌≤◌}
use native.Mathlib.Omega.{arith}
use mir.Val.{Fits}
use mir.Syntax.{w64}
use lib.Dec.{lit≤}
use lib.ListN.{length, drop, get_or, length-append}
use Rattle.meaning.specs.Bytes.{Text}
use Rattle.meaning.specs.Limits.{spec_list_bytes, largest_number, number_groups}
use Rattle.meaning.specs.Number.{number_bytes, text_bytes, record_bytes}
use Rattle.meaning.specs.Prefix.{framed, candidates}
use Rattle.buffer.specs.Splice.{splice}
use Rattle.buffer.proofs.Pairs.{pair-first, pair-second, pair_put, pair_end}
use Rattle.buffer.proofs.Writing.{Writing, writing-starts, writing-room, writing_more, written-place, written-whole}
use Rattle.number.proofs.Bytes.{bytes-few}
use Rattle.number.proofs.Texts.{text-size}
use Rattle.frames.specs.Frames.{longest_frame, candidate, frame_at}

-- what holds of each of the six numbers
pub six : (P : ℕ → Type 0) → P 0 → P 1 → P 2 → P 3 → P 4 → P 5 → (k : ℕ) → k < 6 → P k
six P a b c d e f zero h = a
six P a b c d e f (suc zero) h = b
six P a b c d e f (suc (suc zero)) h = c
six P a b c d e f (suc (suc (suc zero))) h = d
six P a b c d e f (suc (suc (suc (suc zero)))) h = e
six P a b c d e f (suc (suc (suc (suc (suc zero))))) h = f
six P a b c d e f (suc (suc (suc (suc (suc (suc k)))))) h = absurd (omega arith)

-- a candidate is the name in the frame of its number
pub candidate-framed : (t : Text) (k : ℕ) → k < 6 → candidate k t ≡ (frame_at k).leading ++ (t ++ (frame_at k).trailing)
unfolding candidate
candidate-framed t = six (λ (k : ℕ). get_or (candidates t) k [] ≡ framed t (frame_at k)) refl refl refl refl refl refl

-- the candidates from number k on are that one and those after it
pub candidates-next : (t : Text) (k : ℕ) → k < 6 → drop k (candidates t) ≡ candidate k t ∷ drop (k + 1) (candidates t)
unfolding candidate
candidates-next t = six (λ (k : ℕ). drop k (candidates t) ≡ get_or (candidates t) k [] ∷ drop (k + 1) (candidates t)) refl refl refl refl refl refl

-- a leading text has at most thirteen bytes
leading-short : (k : ℕ) → k < 6 → length (frame_at k).leading ≤ 13
leading-short = six (λ (k : ℕ). length (frame_at k).leading ≤ 13) (lit≤ tt) (lit≤ tt) (lit≤ tt) (lit≤ tt) (lit≤ tt) (lit≤ tt)

-- and what trails at most five
trailing-short : (k : ℕ) → k < 6 → length (frame_at k).trailing ≤ 5
trailing-short = six (λ (k : ℕ). length (frame_at k).trailing ≤ 5) (lit≤ tt) (lit≤ tt) (lit≤ tt) (lit≤ tt) (lit≤ tt) (lit≤ tt)

-- a candidate has the bytes of its three parts
pub candidate-length : (t : Text) (k : ℕ) → k < 6 → length (candidate k t) ≡ length (frame_at k).leading + length t + length (frame_at k).trailing
candidate-length t k h = rw (candidate-framed t k h, length-append (frame_at k).leading (t ++ (frame_at k).trailing), length-append t (frame_at k).trailing) (omega arith)

-- what the longest frame adds more than the name at most
pub candidate-short : (t : Text) (k : ℕ) → k < 6 → length (candidate k t) ≤ length t + longest_frame
candidate-short t k h = omega (arith, candidate-length t k h, leading-short k h, trailing-short k h)

-- the records from number k on are that one and those after it
pub records-next : (t : Text) (k : ℕ) → k < 6 → record_bytes (drop k (candidates t)) ≡ text_bytes (candidate k t) ++ record_bytes (drop (k + 1) (candidates t))
unfolding record_bytes
records-next t k h = rw (candidates-next t k h)

-- after the last there are none
pub records-end : (t : Text) (k : ℕ) → 6 ≤ k → k ≤ 6 → record_bytes (drop k (candidates t)) ≡ []
unfolding record_bytes
records-end t k h l = let e : k ≡ 6 = omega arith in rw e

-- the parts of a frame, which the code measures, and the candidate that they make of a name
module _ (t : Text) (k : ℕ) (h : k < 6) (leading trailing : Text) (f : (leading ≡ (frame_at k).leading) × (trailing ≡ (frame_at k).trailing)) where
  pub leading-within : length leading ≤ 13
  leading-within = rw f.0 (leading-short k h)

  pub trailing-within : length trailing ≤ 5
  trailing-within = rw f.1 (trailing-short k h)

  -- its size
  pub framed-size : length leading + length t + length trailing ≡ length (candidate k t)
  framed-size = rw (f.0, f.1) (sym (candidate-length t k h))

  pub pieces : candidate k t ≡ leading ++ (t ++ trailing)
  pieces = rw (f.0, f.1) (candidate-framed t k h)

-- a text of three pieces, written one after another
module _ (d : Text) (at : ℕ) (whole a b c : Text) (e : whole ≡ a ++ (b ++ c)) (fits : at + length whole ≤ length d) where
  room : at + length (a ++ (b ++ c)) ≤ length d
  room = rw e at fits

  -- the first has room
  pub first-room : at + length a ≤ length d
  first-room = pair-first d at a (b ++ c) room

  module _ (d₁ : Text) (i : ℕ) (p₁ : d₁ ≡ splice d at a) (e₁ : i ≡ at + length a) where
    rest-room : i + length (b ++ c) ≤ length d₁
    rest-room = pair-second d at a (b ++ c) room d₁ i p₁ e₁

    -- the second after it
    pub second-room : i + length b ≤ length d₁
    second-room = pair-first d₁ i b c rest-room

    module _ (d₂ : Text) (j : ℕ) (p₂ : d₂ ≡ splice d₁ i b) (e₂ : j ≡ i + length b) where
      -- the third after that
      pub third-room : j + length c ≤ length d₂
      third-room = pair-second d₁ i b c rest-room d₂ j p₂ e₂

      module _ (d₃ : Text) (r : ℕ) (p₃ : d₃ ≡ splice d₂ j c) (e₃ : r ≡ j + length c) where
        -- and all three are the whole
        pub three-put : d₃ ≡ splice d at whole
        three-put = rw e (pair_put d at a (b ++ c) room d₁ i p₁ e₁ d₃ (pair_put d₁ i b c rest-room d₂ j p₂ e₂ d₃ p₃))

        -- which ends there
        pub three-end : r ≡ at + length whole
        three-end = rw e (pair_end d at a (b ++ c) room d₁ i p₁ e₁ r (pair_end d₁ i b c rest-room d₂ j p₂ e₂ r e₃))

-- a candidate's length is a number
pub candidate-number : (t : Text) (k : ℕ) → k < 6 → length t ≤ spec_list_bytes → (n : ℕ) → n ≡ length (candidate k t) → n ≤ largest_number
candidate-number t k h l n e = omega (arith, candidate-short t k h)

-- a record has at most so many bytes more than the name: the longest frame, and a number
abbrev pub record_adds : ℕ
record_adds = longest_frame + number_groups

pub record-short : (t : Text) (k : ℕ) → k < 6 → length (text_bytes (candidate k t)) ≤ length t + record_adds
record-short t k h = omega (arith, text-size (candidate k t) (length (candidate k t)) refl (length (number_bytes (length (candidate k t)))) refl, bytes-few (length (candidate k t)), candidate-short t k h)

-- so a machine's number holds its size, however its number is written
pub record-fits : (t : Text) (k : ℕ) → k < 6 → length t ≤ spec_list_bytes → (n : ℕ) → n ≡ length (candidate k t) → (m j : ℕ) → m ≡ length (number_bytes j) → Fits w64 (m + n)
record-fits t k h l n e m j g = omega (arith, bytes-few j, candidate-short t k h)

-- the records are measured as far as number k
pub record Measured (t : Text) (size k : ℕ) : Type 0 where
  pub count : k ≤ 6
  pub small : size ≤ (spec_list_bytes + record_adds) * k
  pub whole : size + length (record_bytes (drop k (candidates t))) ≡ length (record_bytes (candidates t))

-- nothing is measured at the start
pub measured-starts : (t : Text) → Measured t 0 0
measured-starts t = record { count = omega arith; small = omega arith; whole = omega arith }

module _ (t : Text) (size k : ℕ) (m : Measured t size k) where
  -- one more record
  pub measured-more : k < 6 → length t ≤ spec_list_bytes → (r : ℕ) → r ≡ length (text_bytes (candidate k t)) → Measured t (size + r) (k + 1)
  measured-more h l r e = record {
    count = omega arith;
    small = omega (arith, m.small, record-short t k h);
    whole = omega (arith, m.whole, ap length (records-next t k h), length-append (text_bytes (candidate k t)) (record_bytes (drop (k + 1) (candidates t))));
  }

  -- whose sum a machine's number holds
  pub measured-fits : k < 6 → length t ≤ spec_list_bytes → (r : ℕ) → r ≡ length (text_bytes (candidate k t)) → Fits w64 (size + r)
  measured-fits h l r e = omega (arith, m.small, record-short t k h)

  -- after the sixth all is measured
  pub measured-whole : 6 ≤ k → size ≡ length (record_bytes (candidates t))
  measured-whole h = let e : length (record_bytes (drop k (candidates t))) ≡ 0 = ap length (records-end t k h m.count) in omega (arith, m.whole)

-- the records are written as far as number k
pub record Listing (d : Text) (at : ℕ) (t out : Text) (i k : ℕ) : Type 0 where
  pub count : k ≤ 6
  pub writing : Writing d at (record_bytes (candidates t)) out i (record_bytes (drop k (candidates t)))

-- nothing is written at the start
pub listing-starts : (d : Text) (at : ℕ) (t : Text) → at + length (record_bytes (candidates t)) ≤ length d → Listing d at t d at 0
listing-starts d at t h = record { count = omega arith; writing = writing-starts d at (record_bytes (candidates t)) h }

module _ (d : Text) (at : ℕ) (t out : Text) (i k : ℕ) (l : Listing d at t out i k) where
  -- the next record has room
  pub listing-room : k < 6 → i + length (text_bytes (candidate k t)) ≤ length out
  listing-room h = writing-room d at (record_bytes (candidates t)) out i (record_bytes (drop k (candidates t))) l.writing (text_bytes (candidate k t)) (record_bytes (drop (k + 1) (candidates t))) (records-next t k h)

  -- one more record
  pub listing-more : k < 6 → (next : Text) (j : ℕ) → next ≡ splice out i (text_bytes (candidate k t)) → j ≡ i + length (text_bytes (candidate k t)) → Listing d at t next j (k + 1)
  listing-more h next j p e = record {
    count = omega arith;
    writing = writing_more d at (record_bytes (candidates t)) out i (record_bytes (drop k (candidates t))) l.writing (text_bytes (candidate k t)) (record_bytes (drop (k + 1) (candidates t))) (records-next t k h) next j p e;
  }

  -- after the sixth all is written
  pub listing-put : 6 ≤ k → out ≡ splice d at (record_bytes (candidates t))
  listing-put h = written-whole d at (record_bytes (candidates t)) out i (record_bytes (drop k (candidates t))) l.writing (records-end t k h l.count)

  -- and the list ends there
  pub listing-ends : 6 ≤ k → i ≡ at + length (record_bytes (candidates t))
  listing-ends h = written-place d at (record_bytes (candidates t)) out i (record_bytes (drop k (candidates t))) l.writing (records-end t k h l.count)
