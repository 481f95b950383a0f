-- The sources of the rows at places, one after the other: what is done and the places that are left make the whole. Assumes nothing.
use mathlib.Core.Path.{◌≡◌, ap, ◌∙◌}
use mathlib.Core.List.{List, [], ◌++◌}
use Prim.Native.Nat.{ℕ, ◌+◌, ◌*◌, ◌≤◌, ◌<◌}
use native.Mathlib.Omega.{arith}
use lib.ListN.{length, get_or, drop, length-append}
use Rattle.meaning.specs.Bytes.{Text}
use Rattle.buffer.specs.Splice.{splice}
use Rattle.text.proofs.Rests.{rest-cons, rest_end}
use Rattle.buffer.proofs.Writing.{Writing, writing-room, writing_more, written-place, written-whole}
use Rattle.conflict.specs.Sizes.{conflict_source_most}
use Rattle.conflict.specs.Shared.{source_at, sources_at}

module _ (s : Text) (l : List ℕ) (i : ℕ) where
  source-next : i < length l → sources_at s (drop i l) ≡ source_at s (get_or l i 0) ++ sources_at s (drop (i + 1) l)
  unfolding source_at sources_at
  source-next h = rw (rest-cons l i h)

  source-none : length l ≤ i → sources_at s (drop i l) ≡ []
  unfolding sources_at
  source-none h = rw (rest_end l i h)

-- the first i sources are measured
pub record Measuring (s : Text) (l : List ℕ) (i size : ℕ) : Type 0 where
  pub within : i ≤ length l
  pub measured : size + length (sources_at s (drop i l)) ≡ length (sources_at s l)
  pub small : size ≤ i * conflict_source_most

module _ (s : Text) (l : List ℕ) (i size : ℕ) (m : Measuring s l i size) where
  module _ (p n : ℕ) (h : i < length l) (ep : p ≡ get_or l i 0) (en : n ≡ length (source_at s p)) (few : n ≤ conflict_source_most) where
    pub measuring-more : Measuring s l (i + 1) (size + n)
    measuring-more =
        let e : n ≡ length (source_at s (get_or l i 0)) = en ∙ ap (λ (x : ℕ). length (source_at s x)) ep in
        record {
          within = omega arith;
          measured = omega (arith, m.measured, ap length (source-next s l i h), length-append (source_at s (get_or l i 0)) (sources_at s (drop (i + 1) l)));
          small = omega (arith, m.small);
        }

  pub measuring-done : length l ≤ i → size ≡ length (sources_at s l)
  measuring-done h = omega (arith, m.measured, ap length (source-none s l i h))

  pub measuring-small : size ≤ length l * conflict_source_most
  measuring-small = omega (arith, m.small, m.within)

-- the first i sources are written
pub record Putting (s : Text) (l : List ℕ) (buffer : Text) (start : ℕ) (out : Text) (to i : ℕ) : Type 0 where
  pub within : i ≤ length l
  pub writing : Writing buffer start (sources_at s l) out to (sources_at s (drop i l))

module _ (s : Text) (l : List ℕ) (buffer : Text) (start : ℕ) (out : Text) (to i : ℕ) (k : Putting s l buffer start out to i) where
  module _ (p : ℕ) (h : i < length l) (ep : p ≡ get_or l i 0) where
    pieces : sources_at s (drop i l) ≡ source_at s p ++ sources_at s (drop (i + 1) l)
    pieces = rw ep (source-next s l i h)

    pub putting-room : to + length (source_at s p) ≤ length out
    putting-room = writing-room buffer start (sources_at s l) out to (sources_at s (drop i l)) k.writing (source_at s p) (sources_at s (drop (i + 1) l)) pieces

    pub putting-more : (new : Text) (stop : ℕ) → new ≡ splice out to (source_at s p) → stop ≡ to + length (source_at s p) → Putting s l buffer start new stop (i + 1)
    putting-more new stop q e =
        record { within = omega arith; writing = writing_more buffer start (sources_at s l) out to (sources_at s (drop i l)) k.writing (source_at s p) (sources_at s (drop (i + 1) l)) pieces new stop q e }

  pub putting-done : length l ≤ i → out ≡ splice buffer start (sources_at s l)
  putting-done h = written-whole buffer start (sources_at s l) out to (sources_at s (drop i l)) k.writing (source-none s l i h)

  pub putting-place : length l ≤ i → to ≡ start + length (sources_at s l)
  putting-place h = written-place buffer start (sources_at s l) out to (sources_at s (drop i l)) k.writing (source-none s l i h)
