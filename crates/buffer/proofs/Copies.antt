-- Several bytes of a text that are stored one after the other are its splice. Assumes nothing.
use mathlib.Core.Path.{◌≡◌, refl, sym, ◌∙◌}
use mathlib.Core.List.{[], ◌∷◌, append_assoc}
use Prim.Native.Nat.{ℕ, suc, ◌+◌, ◌-◌, ◌≤◌, ◌<◌}
use native.Mathlib.Omega.{arith}
use native.Mathlib.Numerals.{add-one}
use lib.ListN.{length, get_or, set, take, drop, length-drop}
use lib.Seq.{sets, sets-eq, take-add, take_all, drop-drop, length-take-le}
use Rattle.meaning.specs.Bytes.{Text}
use Rattle.buffer.specs.Splice.{splice}
use Rattle.text.proofs.Rests.{rest-cons}
use Rattle.buffer.proofs.Splices.{length-splice, splice-none, splice-next, splice-more, splice-rest}

-- stores in a row are a splice
sets-splice : (d : Text) (at : ℕ) (s : Text) → at + length s ≤ length d → sets d at s ≡ splice d at s
unfolding splice
sets-splice d at s h = sets-eq s d at h ∙ append_assoc (take at d) s (drop (at + length s) d)

-- stored one after the other
pub four-stored : (d : Text) (at v₀ v₁ v₂ v₃ : ℕ) → at + 4 ≤ length d → set (set (set (set d at v₀) (at + 1) v₁) (at + 2) v₂) (at + 3) v₃ ≡ splice d at (v₀ ∷ v₁ ∷ v₂ ∷ v₃ ∷ [])
four-stored d at v₀ v₁ v₂ v₃ k =
    let one : at + 1 ≡ suc at = add-one at in
    let two : at + 2 ≡ suc (suc at) = omega arith in
    let three : at + 3 ≡ suc (suc (suc at)) = omega arith in
    rw (one, two, three) (sets-splice d at (v₀ ∷ v₁ ∷ v₂ ∷ v₃ ∷ []) k)

-- the four bytes of s from i on
four_bytes : (s : Text) (i : ℕ) → i + 4 ≤ length s → take 4 (drop i s) ≡ get_or s i 0 ∷ get_or s (i + 1) 0 ∷ get_or s (i + 2) 0 ∷ get_or s (i + 3) 0 ∷ []
four_bytes s i h =
    let two : i + 1 + 1 ≡ i + 2 = omega arith in
    let three : i + 2 + 1 ≡ i + 3 = omega arith in
    rw (rest-cons s i (omega arith), rest-cons s (i + 1) (omega arith), two, rest-cons s (i + 2) (omega arith), three, rest-cons s (i + 3) (omega arith))

-- read, and then stored
pub four-copied : (d s out : Text) (at i : ℕ) → i + 4 ≤ length s → out ≡ splice d at (get_or s i 0 ∷ get_or s (i + 1) 0 ∷ get_or s (i + 2) 0 ∷ get_or s (i + 3) 0 ∷ []) → out ≡ splice d at (take 4 (drop i s))
four-copied d s out at i h e = rw (four_bytes s i h) e

-- read, and then stored in two halves
pub eight-copied : (d s half out : Text) (at i : ℕ) → i + 8 ≤ length s → at + 8 ≤ length d
    → half ≡ splice d at (get_or s i 0 ∷ get_or s (i + 1) 0 ∷ get_or s (i + 2) 0 ∷ get_or s (i + 3) 0 ∷ [])
    → out ≡ splice half (at + 4) (get_or s (i + 4) 0 ∷ get_or s (i + 5) 0 ∷ get_or s (i + 6) 0 ∷ get_or s (i + 7) 0 ∷ [])
    → out ≡ splice d at (take 8 (drop i s))
eight-copied d s half out at i h k e f =
    let five : i + 4 + 1 ≡ i + 5 = omega arith in
    let six : i + 4 + 2 ≡ i + 6 = omega arith in
    let seven : i + 4 + 3 ≡ i + 7 = omega arith in
    f
    ∙ rw (e, take-add 4 4 (drop i s), drop-drop 4 i s, four_bytes s i (omega arith), four_bytes s (i + 4) (omega arith), five, six, seven)
    (splice-next d at (get_or s i 0 ∷ get_or s (i + 1) 0 ∷ get_or s (i + 2) 0 ∷ get_or s (i + 3) 0 ∷ []) (get_or s (i + 4) 0 ∷ get_or s (i + 5) 0 ∷ get_or s (i + 6) 0 ∷ get_or s (i + 7) 0 ∷ []) (at + 4) (omega arith) refl)

-- the last k bytes of s are written over the first i
pub last-over : (d s before after : Text) (at i k : ℕ) → at + length s ≤ length d → k ≤ length s → length s - k ≤ i → i ≤ length s
    → before ≡ splice d at (take i s) → after ≡ splice before (at + (length s - k)) (take k (drop (length s - k) s)) → after ≡ splice d at s
last-over d s before after at i k h l m n e f =
    let last = length s - k in
    let whole : take k (drop last s) ≡ drop last s = take_all k (drop last s) (rw (length-drop last s) (omega arith)) in
    f ∙ rw (e, whole) (splice-rest d s at i last h m n)

-- of s, which has four bytes to seven
pub four-over : (d s before after : Text) (at : ℕ) → at + length s ≤ length d → 4 ≤ length s → length s < 8
    → before ≡ splice d at (take 4 (drop 0 s)) → after ≡ splice before (at + (length s - 4)) (take 4 (drop (length s - 4) s)) → after ≡ splice d at s
four-over d s before after at h l m e f = last-over d s before after at 4 4 h l (omega arith) l e f

-- as far as i, s is written into d, and out is the buffer now
pub record Copied (d : Text) (at : ℕ) (s out : Text) (i : ℕ) : Type 0 where
  pub fits : at + length s ≤ length d
  pub within : i ≤ length s
  pub kept : length out ≡ length d
  pub makes : out ≡ splice d at (take i s)

pub copied_none : (d : Text) (at : ℕ) (s : Text) → at + length s ≤ length d → Copied d at s d 0
copied_none d at s h = record { fits = h; within = omega arith; kept = refl; makes = sym (splice-none d at) }

-- eight bytes more
pub copied-eight : (d : Text) (at : ℕ) (s out next : Text) (i : ℕ) → Copied d at s out i → i < length s - 8 → next ≡ splice out (at + i) (take 8 (drop i s)) → Copied d at s next (i + 8)
copied-eight d at s out next i c l e =
    let fits = c.fits in
    let kept = c.kept in
    let t = take 8 (drop i s) in
    let lt : length t ≡ 8 = length-take-le 8 (drop i s) (rw (length-drop i s) (omega arith)) in
    record {
      fits = c.fits;
      within = omega arith;
      kept = rw e (length-splice out (at + i) t (rw (lt, kept) (omega arith))) ∙ kept;
      makes = e ∙ rw c.makes (splice-more d s at i 8 fits (omega arith));
    }

-- the last eight are written
pub copied-last : (d : Text) (at : ℕ) (s out after : Text) (i : ℕ) → Copied d at s out i → 8 ≤ length s → length s - 8 ≤ i
    → after ≡ splice out (at + (length s - 8)) (take 8 (drop (length s - 8) s)) → after ≡ splice d at s
copied-last d at s out after i c l m e = last-over d s out after at i 8 c.fits l m c.within c.makes e
