-- The lines of a text, taken one after the other. Assumes nothing.
use Prim.Native.Nat.{ℕ, zero, suc, ◌+◌, ◌-◌, ◌<◌, ◌≤◌}
use mathlib.Core.Path.{◌≡◌, refl, sym, ap, ◌∙◌}
use mathlib.Core.Bool.{Bool, true, false, cond}
use mathlib.Core.List.{List, [], ◌∷◌}
use native.Mathlib.Omega.{arith}
use lib.Dec.{eqb}
use lib.ListN.{length, take, drop, get_or, length-drop}
use lib.Seq.{drop-drop, get_or-drop, take_all}
use Rattle.meaning.specs.Bytes.{Text, ◌and◌, begins, numbered_from}
use Rattle.text.specs.Place.{first_at}
use Rattle.text.proofs.Rests.{rest_end}
use Rattle.text.proofs.Scans.{byte-is, byte-other}
use Rattle.text_lists.specs.Line.{before_first, lines_of, lines_left, LineAt}

-- a line without a carriage return at its end
abbrev chopped : Text → Text
chopped [] = []
chopped (x ∷ []) = cond (eqb 13 x) [] (x ∷ [])
chopped (x ∷ (y ∷ s)) = x ∷ chopped (y ∷ s)

chopped-return : (t : Text) (n : ℕ) → n < length t → get_or t n 0 ≡ 13 → chopped (take (suc n) t) ≡ take n t
chopped-return [] n h e = absurd (omega arith)
chopped-return (x ∷ t) zero h e = rw (byte-is x 13 e)
chopped-return (x ∷ []) (suc n) h e = absurd (omega arith)
chopped-return (x ∷ (y ∷ t)) (suc n) h e = ap (λ (l : Text). x ∷ l) (chopped-return (y ∷ t) n (omega arith) e)

chopped-other : (t : Text) (n : ℕ) → n < length t → (get_or t n 0 ≡ 13 → ⊥) → chopped (take (suc n) t) ≡ take (suc n) t
chopped-other [] n h e = absurd (omega arith)
chopped-other (x ∷ t) zero h e = rw (byte-other x 13 e)
chopped-other (x ∷ []) (suc n) h e = absurd (omega arith)
chopped-other (x ∷ (y ∷ t)) (suc n) h e = ap (λ (l : Text). x ∷ l) (chopped-other (y ∷ t) n (omega arith) e)

neither : (b : Bool) → (b and false) ≡ false
neither true = refl
neither false = refl

-- the first line where a line feed ends it, and the lines after it
ended : (s : Text) → first_at 10 s < length s → lines_of s ≡ chopped (take (first_at 10 s) s) ∷ lines_of (drop (suc (first_at 10 s)) s)
ended [] h = absurd (omega arith)
ended (x ∷ []) h = go (eqb 10 x) refl h
  where
    go : (b : Bool) → eqb 10 x ≡ b → cond b 0 1 < 1 → cond b ([] ∷ []) (cond (eqb 13 x and false) [] ((x ∷ []) ∷ [])) ≡ chopped (take (cond b 0 1) (x ∷ [])) ∷ lines_of (drop (suc (cond b 0 1)) (x ∷ []))
    go true e l = refl
    go false e l = absurd (omega arith)
ended (x ∷ (y ∷ s)) h = go (eqb 10 x) h (ended (y ∷ s))
  where
    return : (c : Bool) → cond (c and true) ([] ∷ lines_of s) ((x ∷ []) ∷ lines_of s) ≡ cond c [] (x ∷ []) ∷ lines_of s
    return true = refl
    return false = refl

    next : (b : Bool) → lines_of (y ∷ s) ≡ chopped (take (cond b 0 (suc (first_at 10 s))) (y ∷ s)) ∷ lines_of (drop (suc (cond b 0 (suc (first_at 10 s)))) (y ∷ s)) → cond (eqb 13 x and (b and true)) (lines_of (y ∷ s)) (before_first x (lines_of (y ∷ s))) ≡ chopped (x ∷ take (cond b 0 (suc (first_at 10 s))) (y ∷ s)) ∷ lines_of (drop (suc (cond b 0 (suc (first_at 10 s)))) (y ∷ s))
    next true e = rw e (return (eqb 13 x))
    next false e = rw (neither (eqb 13 x)) (ap (before_first x) e)

    go : (b : Bool) → cond b 0 (suc (first_at 10 (y ∷ s))) < length (x ∷ (y ∷ s)) → (first_at 10 (y ∷ s) < length (y ∷ s) → lines_of (y ∷ s) ≡ chopped (take (first_at 10 (y ∷ s)) (y ∷ s)) ∷ lines_of (drop (suc (first_at 10 (y ∷ s))) (y ∷ s))) → cond b ([] ∷ lines_of (y ∷ s)) (cond (eqb 13 x and begins (10 ∷ []) (y ∷ s)) (lines_of (y ∷ s)) (before_first x (lines_of (y ∷ s)))) ≡ chopped (take (cond b 0 (suc (first_at 10 (y ∷ s)))) (x ∷ (y ∷ s))) ∷ lines_of (drop (suc (cond b 0 (suc (first_at 10 (y ∷ s))))) (x ∷ (y ∷ s)))
    go true l r = refl
    go false l r = next (eqb 10 y) (r (omega arith))

-- where none does, the line is all that is left
open-line : (s : Text) → 0 < length s → first_at 10 s ≡ length s → lines_of s ≡ s ∷ []
open-line [] h e = absurd (omega arith)
open-line (x ∷ []) h e = go (eqb 10 x) e
  where
    go : (b : Bool) → ◌≡◌ {A = ℕ} (cond b 0 1) 1 → cond b ([] ∷ []) (cond (eqb 13 x and false) [] ((x ∷ []) ∷ [])) ≡ (x ∷ []) ∷ []
    go true f = absurd (omega arith)
    go false f = rw (neither (eqb 13 x))
open-line (x ∷ (y ∷ s)) h e = go (eqb 10 x) e (open-line (y ∷ s) (omega arith))
  where
    next : (b : Bool) → cond b 0 (suc (first_at 10 s)) ≡ suc (length s) → lines_of (y ∷ s) ≡ (y ∷ s) ∷ [] → cond (eqb 13 x and (b and true)) (lines_of (y ∷ s)) (before_first x (lines_of (y ∷ s))) ≡ (x ∷ (y ∷ s)) ∷ []
    next true f g = absurd (omega arith)
    next false f g = rw (neither (eqb 13 x)) (ap (before_first x) g)

    go : (b : Bool) → cond b 0 (suc (first_at 10 (y ∷ s))) ≡ suc (suc (length s)) → (first_at 10 (y ∷ s) ≡ length (y ∷ s) → lines_of (y ∷ s) ≡ (y ∷ s) ∷ []) → cond b ([] ∷ lines_of (y ∷ s)) (cond (eqb 13 x and begins (10 ∷ []) (y ∷ s)) (lines_of (y ∷ s)) (before_first x (lines_of (y ∷ s)))) ≡ (x ∷ (y ∷ s)) ∷ []
    go true f r = absurd (omega arith)
    go false f r = next (eqb 10 y) (omega arith) (r (omega arith))

-- the line from a place on, by where its line feed is
module _ (s : Text) (at feed : ℕ) (h : at < length s) (e : feed ≡ at + first_at 10 (drop at s)) where
  -- there is none
  pub line-open : feed ≤ length s → feed ≡ length s → LineAt s at feed (feed + 1)
  line-open w f =
      let l : length (drop at s) ≡ length s - at = length-drop at s in
      let n : first_at 10 (drop at s) ≡ length (drop at s) = omega arith in
      record {
        is = open-line (drop at s) (omega arith) n ∙ rw (take_all (feed - at) (drop at s) (omega arith), rest_end s (feed + 1) (omega arith));
        starts = omega arith;
        ends = omega arith;
        within = omega arith;
      }

  module _ (w : feed ≤ length s) (f : feed ≡ length s → ⊥) where
    feed-line : lines_of (drop at s) ≡ chopped (take (feed - at) (drop at s)) ∷ lines_of (drop (feed + 1) s)
    feed-line =
        let n = first_at 10 (drop at s) in
        let l : length (drop at s) ≡ length s - at = length-drop at s in
        let p : feed - at ≡ n = omega arith in
        let q : feed + 1 ≡ at + suc n = omega arith in
        ended (drop at s) (omega arith) ∙ rw (p, q, drop-drop (suc n) at s)

    -- it ends an empty line
    pub line-empty : feed ≡ at → LineAt s at feed (feed + 1)
    line-empty z = let p : feed - at ≡ 0 = omega arith in record { is = rw (feed-line, p); starts = omega arith; ends = omega arith; within = omega arith }

    module _ (z : feed ≡ at → ⊥) where
      more : suc (feed - 1 - at) ≡ feed - at
      more = omega arith

      before : get_or (drop at s) (feed - 1 - at) 0 ≡ get_or s (feed - 1) 0
      before = let p : at + (feed - 1 - at) ≡ feed - 1 = omega arith in rw (get_or-drop, p)

      room : feed - 1 - at < length (drop at s)
      room = rw length-drop (omega arith)

      -- no carriage return stands before it
      pub line_plain : (get_or s (feed - 1) 0 ≡ 13 → ⊥) → LineAt s at feed (feed + 1)
      line_plain n = record {
        is = feed-line ∙ ap (λ (l : Text). l ∷ lines_of (drop (feed + 1) s)) (rw more at (chopped-other (drop at s) (feed - 1 - at) room (λ q. n (sym before ∙ q))));
        starts = omega arith;
        ends = omega arith;
        within = omega arith;
      }

      -- one does
      pub line-returned : get_or s (feed - 1) 0 ≡ 13 → LineAt s at (feed - 1) (feed + 1)
      line-returned q = record {
        is = feed-line ∙ ap (λ (l : Text). l ∷ lines_of (drop (feed + 1) s)) (rw more at (chopped-return (drop at s) (feed - 1 - at) room (before ∙ q)));
        starts = omega arith;
        ends = omega arith;
        within = omega arith;
      }

-- each line has at most so many bytes
abbrev Short : ℕ → List Text → Type 0
Short m [] = Unit {0}
Short m (l ∷ ls) = (length l ≤ m) × Short m ls

-- and so each with its number
abbrev pub LinesShort : ℕ → List (ℕ × Text) → Type 0
LinesShort m [] = Unit {0}
LinesShort m (l ∷ ls) = (length l.1 ≤ m) × LinesShort m ls

-- no line is longer than its text
lines-short : (m : ℕ) (s : Text) → length s ≤ m → Short m (lines_of s)
lines-short m [] h = tt
lines-short zero (x ∷ s) h = absurd (omega arith)
lines-short (suc m) (x ∷ s) h = go (eqb 10 x) (eqb 13 x and begins (10 ∷ []) s) (lines-short (suc m) s (omega arith)) (lines-short m s (omega arith))
  where
    firsts : (ls : List Text) → Short (suc m) ls → Short m ls → Short (suc m) (before_first x ls)
    firsts [] p q = (omega arith, tt)
    firsts (l ∷ ls) p q = let k : length l ≤ m = q.0 in (omega arith, p.1)

    go : (b c : Bool) → Short (suc m) (lines_of s) → Short m (lines_of s) → Short (suc m) (cond b ([] ∷ lines_of s) (cond c (lines_of s) (before_first x (lines_of s))))
    go true c p q = (omega arith, p)
    go false true p q = p
    go false false p q = firsts (lines_of s) p q

-- nor one of those that are left
pub left-short : (m k : ℕ) (s : Text) → length s ≤ m → LinesShort m (lines_left k s)
left-short m k s h = numbers (k + 1) (lines_of s) (lines-short m s h)
  where
    numbers : (n : ℕ) (ls : List Text) → Short m ls → LinesShort m (numbered_from n ls)
    numbers n [] p = tt
    numbers n (l ∷ ls) p = (p.0, numbers (suc n) ls p.1)
