-- What a pattern catches of a name: where it stands, by the sizes of the pattern and the name. Assumes nothing.
use Prim.Native.Nat.{ℕ, suc, ◌+◌, ◌-◌, ◌≤◌, ◌<◌}
use native.Mathlib.Omega.{arith}
use mathlib.Core.Path.{◌≡◌, refl, sym, ap, ◌∙◌}
use mathlib.Core.Bool.{Bool, true, false, false≢true}
use mathlib.Core.Option.{none, some}
use borrow.Author.Tests.{leb-true, leb-false}
use lib.Dec.{leb}
use lib.ListN.{length, take, drop, length-drop}
use lib.Seq.{take-take}
use Rattle.meaning.specs.Bytes.{Text, begins, ends}
use Rattle.meaning.specs.Match.{capture}
use Rattle.compare.proofs.Sames.{ends-never}
use Rattle.compare.proofs.Blocks.{begins-longer}
use Rattle.parse.specs.Places.{part_at}
use Rattle.parse.proofs.Parts.{part_length}

begins-within : (p s : Text) → begins p s ≡ true → length p ≤ length s
begins-within p s e = go (leb (length p) (length s)) refl
  where
    go : (b : Bool) → leb (length p) (length s) ≡ b → length p ≤ length s
    go true h = leb-true (length p) (length s) h
    go false h = absurd (false≢true (begins-longer p s (leb-false (length p) (length s) h) ∙ e))

ends-within : (p s : Text) → ends p s ≡ true → length p ≤ length s
ends-within p s e = go (leb (length p) (length s)) refl
  where
    go : (b : Bool) → leb (length p) (length s) ≡ b → length p ≤ length s
    go true h = leb-true (length p) (length s) h
    go false h = absurd (false≢true (ends-never s p (leb-false (length p) (length s) h) ∙ e))

-- c is what a name has between a and b
pub record Between (a b name c : Text) : Type 0 where
  pub starts : begins a name ≡ true
  pub fits : length a + length b ≤ length name
  pub is : c ≡ part_at name (length a) (length name - (length a + length b))

pub between : (a b name c : Text) → capture a b name ≡ some c → Between a b name c
unfolding capture
between a b name c h = go (begins a name) refl (ends b (drop (length a) name)) refl
  where
    go : (t : Bool) → begins a name ≡ t → (u : Bool) → ends b (drop (length a) name) ≡ u → Between a b name c
    go false e u d =
        let k : none ≡ some c = rw e at h in
        let z : ◌≡◌ {A = ℕ} 0 1 = cc in
        absurd (omega arith)
    go true e false d =
        let k : none ≡ some c = rw (e, d) at h in
        let z : ◌≡◌ {A = ℕ} 0 1 = cc in
        absurd (omega arith)
    go true e true d =
        let k : some (take (length (drop (length a) name) - length b) (drop (length a) name)) ≡ some c = rw (e, d) at h in
        let q : take (length (drop (length a) name) - length b) (drop (length a) name) ≡ c = cc in
        let n : length (drop (length a) name) ≡ length name - length a = length-drop (length a) name in
        let z : length (drop (length a) name) - length b ≡ length name - (length a + length b) = omega arith in
        record {
          starts = e;
          fits = omega (arith, begins-within a name e, ends-within b (drop (length a) name) d);
          is = sym q ∙ ap (λ (i : ℕ). take i (drop (length a) name)) z;
        }

-- c is what a name has in place of the star of a pattern of so many bytes
pub record InPlace (size star : ℕ) (name c : Text) : Type 0 where
  pub long : size ≤ length name + 1
  pub within : star + (length name + 1 - size) ≤ length name
  pub is : c ≡ part_at name star (length name + 1 - size)

pub in_place : (specs : Text) (at size star : ℕ) (name c : Text) → at + size ≤ length specs → star < size → capture (take star (part_at specs at size)) (drop (suc star) (part_at specs at size)) name ≡ some c → InPlace size star name c
in_place specs at size star name c w h k =
    let b = between (take star (part_at specs at size)) (drop (suc star) (part_at specs at size)) name c k in
    let x : length (take star (part_at specs at size)) ≡ star = rw (take-take star size (drop at specs) (omega arith)) (part_length specs at star (omega arith)) in
    let y : length (drop (suc star) (part_at specs at size)) ≡ size - suc star = length-drop (suc star) (part_at specs at size) ∙ ap (λ (i : ℕ). i - suc star) (part_length specs at size w) in
    let f : star + (size - suc star) ≤ length name = rw (x, y) at b.fits in
    let z : length name - (star + (size - suc star)) ≡ length name + 1 - size = omega arith in
    record { long = omega arith; within = omega arith; is = rw (x, y, z) at b.is }
