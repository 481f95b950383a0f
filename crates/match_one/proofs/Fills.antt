-- A pattern with a part of a name in place of its star: its places, and the text that they denote. Assumes nothing.
use Prim.Native.Nat.{ℕ, zero, suc, ◌+◌, ◌-◌, ◌≤◌, ◌<◌}
use native.Mathlib.Omega.{arith}
use mathlib.Core.Path.{◌≡◌, sym, ap, ap₂, ◌∙◌}
use mathlib.Core.List.{[], ◌∷◌, ◌++◌}
use mathlib.Core.Option.{some}
use lib.ListN.{length, take, drop}
use lib.Seq.{take-take, take-nil, drop-drop}
use Rattle.meaning.specs.Bytes.{Text}
use Rattle.meaning.specs.Match.{capture}
use Rattle.std.specs.Prelude as std
use Rattle.glob.specs.declared.Captured.{Captured}
use Rattle.glob.specs.Captures.{capture_meant}
use Rattle.parse.specs.declared.types.Side.{Side}
use Rattle.parse.specs.declared.types.Side.TheVariants as side
use Rattle.parse.specs.Places.{part_at, Within}
use Rattle.parse.proofs.Parts.{part_length}
use Rattle.refspec.specs.Instructions.{side_text}
use Rattle.matcher.specs.declared.types.RowText.{RowText}
use Rattle.matcher.specs.declared.types.RowText.TheVariants as row-text
use Rattle.matcher.specs.Matching.{row_text_meant, RowTextWithin, StarIn}
use Rattle.match_one.specs.Answers.{filled_at, filled_place}

-- the arm of a `match` on a side that is a part
module _ (s : Side) (at n : ℕ) (is : s ≡ side.Part at n) where
  -- its star stands in it
  pub star-part : (star : ℕ) → StarIn star s → star < n
  star-part star h = rw is at h

  -- its places
  pub filled_is : (star from len : ℕ) (r : RowText) → r ≡ row-text.Filled (filled_at at n star from len) → r ≡ filled_place s star from len
  filled_is star from len r h = rw is h

-- the star of a side stands below the length of its text
star-below : (specs : Text) (s : Side) (star : ℕ) → Within (length specs) s → StarIn star s → star < length (side_text specs s)
star-below specs side.Absent star w h = absurd h
star-below specs (side.Part at n) star w h = rw (part_length specs at n w) h
star-below specs side.Head star w h = absurd h

-- a call gave the text
module _ (specs : Text) (s : Side) (u : Text) (eu : u ≡ side_text specs s) where
  pub star-within : (star : ℕ) → Within (length specs) s → StarIn star s → star < length u
  star-within star w h = rw eu (star-below specs s star w h)

  -- and another a capture by it
  pub side-captured : (star : ℕ) (name : Text) (g : std.Option Captured) → capture_meant name g ≡ capture (take star u) (drop (suc star) u) name
      → capture_meant name g ≡ capture (take star (side_text specs s)) (drop (suc star) (side_text specs s)) name
  side-captured star name g h = rw eu at h

-- to drop of what was taken is to take of what was dropped
drop-take : (k m : ℕ) (l : Text) → k ≤ m → drop k (take m l) ≡ take (m - k) (drop k l)
drop-take zero m l h = let e : m - 0 ≡ m = omega arith in rw e
drop-take (suc k) zero l h = absurd (omega arith)
drop-take (suc k) (suc m) [] h = sym (take-nil (suc m - suc k))
drop-take (suc k) (suc m) (x ∷ l) h = let e : suc m - suc k ≡ m - k = omega arith in rw e (drop-take k m l (omega arith))

-- a part after the star of a part
after-part : (specs : Text) (at n star : ℕ) → star < n → part_at specs (at + star + 1) (n - star - 1) ≡ drop (suc star) (part_at specs at n)
after-part specs at n star h =
    let a : at + star + 1 ≡ at + suc star = omega arith in
    let b : n - star - 1 ≡ n - suc star = omega arith in
    sym (drop-take (suc star) n (drop at specs) (omega arith) ∙ rw (a, b) (ap (take (n - suc star)) (drop-drop (suc star) at specs)))

module _ (specs name : Text) where
  -- the places of a filled pattern denote it
  pub filled-meant : (s : Side) (star from n : ℕ) → Within (length specs) s → StarIn star s
      → row_text_meant specs name (filled_place s star from n) ≡ some (take star (side_text specs s) ++ (part_at name from n ++ drop (suc star) (side_text specs s)))
  filled-meant side.Absent star from n w h = absurd h
  filled-meant (side.Part at size) star from n w h =
      ap some (ap₂ (λ (a b : Text). a ++ (part_at name from n ++ b)) (sym (take-take star size (drop at specs) (omega arith))) (after-part specs at size star h))
  filled-meant side.Head star from n w h = absurd h

-- and stand within the list and the name
pub filled_within : (len name_len : ℕ) (s : Side) (star from n : ℕ) → Within len s → StarIn star s → from + n ≤ name_len → RowTextWithin len name_len (filled_place s star from n)
filled_within len name_len side.Absent star from n w h l = absurd h
filled_within len name_len (side.Part at size) star from n w h l = record { start-within = omega arith; capture-within = l; end-within = omega arith }
filled_within len name_len side.Head star from n w h l = absurd h
