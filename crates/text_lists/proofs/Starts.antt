-- Where a line begins that so many others come before. Assumes nothing.
use Prim.Native.Nat.{ℕ, suc, ◌+◌, ◌-◌, ◌<◌, ◌≤◌}
use mathlib.Core.Path.{◌≡◌, refl, sym, ap, ◌∙◌}
use mathlib.Core.Bool.{Bool, true, false, cond}
use mathlib.Core.List.{List, [], ◌∷◌}
use native.Mathlib.Omega.{arith}
use lib.Dec.{eqb}
use lib.ListN.{length, take, drop, get_or, length-drop}
use lib.Seq.{drop-drop, get_or-drop}
use Rattle.std.proofs.Common.{length-take}
use Rattle.meaning.specs.Bytes.{Text, ◌and◌, begins, numbered_from}
use Rattle.text_lists.specs.Line.{before_first, lines_of, LineAt}

and-right : (a b : Bool) → (a and b) ≡ true → b ≡ true
and-right true b e = e
and-right false b e = cc

-- the first line of a text; no bytes where it has none
abbrev first_of : List Text → Text
first_of ls = get_or ls 0 []

-- it is empty where a line feed begins the text
feed-first : (s : Text) → begins (10 ∷ []) s ≡ true → first_of (lines_of s) ≡ []
feed-first [] h = refl
feed-first (y ∷ s) h = go (eqb 10 y) h
  where
    go : (b : Bool) → (b and true) ≡ true → first_of (cond b ([] ∷ lines_of s) (cond (eqb 13 y and begins (10 ∷ []) s) (lines_of s) (before_first y (lines_of s)))) ≡ []
    go true f = refl
    go false f = cc

before-there : (x : ℕ) (s : Text) (ls : List Text) → take (length (first_of ls)) s ≡ first_of ls → take (length (first_of (before_first x ls))) (x ∷ s) ≡ first_of (before_first x ls)
before-there x s [] e = refl
before-there x s (l ∷ ls) e = ap (λ (t : Text). x ∷ t) e

-- and the text begins with it
first-there : (s : Text) → take (length (first_of (lines_of s))) s ≡ first_of (lines_of s)
first-there [] = refl
first-there (x ∷ s) = go (eqb 10 x) (eqb 13 x and begins (10 ∷ []) s) (λ e. feed-first s (and-right (eqb 13 x) _ e)) (first-there s)
  where
    go : (b c : Bool) → (c ≡ true → first_of (lines_of s) ≡ []) → take (length (first_of (lines_of s))) s ≡ first_of (lines_of s) → take (length (first_of (cond b ([] ∷ lines_of s) (cond c (lines_of s) (before_first x (lines_of s)))))) (x ∷ s) ≡ first_of (cond b ([] ∷ lines_of s) (cond c (lines_of s) (before_first x (lines_of s))))
    go true c n e = refl
    go false true n e = rw (n refl) refl
    go false false n e = before-there x s (lines_of s) e

-- a text that has a line is not empty
some-text : (s : Text) → 0 < length (lines_of s) → 0 < length s
some-text [] h = h
some-text (x ∷ s) h = omega arith

-- the line that n others come before begins at a place
abbrev pub Starts : Text → ℕ → ℕ → Type 0
Starts s n at = lines_of (drop at s) ≡ drop n (lines_of s)

module _ (s : Text) (n at : ℕ) (w : Starts s n at) where
  -- if there is such a line, the place is within the text
  pub start_within : n < length (lines_of s) → at < length s
  start_within h =
      let l : length (lines_of (drop at s)) ≡ length (lines_of s) - n = ap length w ∙ length-drop n (lines_of s) in
      let p : 0 < length (drop at s) = some-text (drop at s) (omega arith) in
      let q : length (drop at s) ≡ length s - at = length-drop at s in
      omega arith

  -- the line after it begins where its end says
  pub start_next : (end next : ℕ) → LineAt s at end next → Starts s (n + 1) next
  start_next end next e = ap (drop 1) (sym e.is ∙ w) ∙ drop-drop 1 n (lines_of s)

  module _ (h : n < length (lines_of s)) (t : Text) (e : get_or (lines_of s) n [] ≡ t) where
    first-is : first_of (lines_of (drop at s)) ≡ t
    first-is = let z : n + 0 ≡ n = omega arith in ap first_of w ∙ rw (get_or-drop, z) e

    -- it stands there
    pub start-there : take (length t) (drop at s) ≡ t
    start-there = rw first-is at (first-there (drop at s))

    pub start-room : at + length t ≤ length s
    start-room =
        let a : at < length s = start_within h in
        let l : length (take (length t) (drop at s)) ≡ length t = ap length start-there in
        let m = length-take (length t) (drop at s) in
        let q : length (drop at s) ≡ length s - at = length-drop at s in
        omega arith

-- each numbered line is the one of its number
abbrev pub Numbered : List Text → List (ℕ × Text) → Type 0
Numbered all [] = Unit {0}
Numbered all (l ∷ ls) = ((0 < l.0) × (l.0 ≤ length all) × (get_or all (l.0 - 1) [] ≡ l.1)) × Numbered all ls

-- so are those that are left
pub left-numbered : (all : List Text) (k : ℕ) (ls : List Text) → ls ≡ drop k all → Numbered all (numbered_from (suc k) ls)
left-numbered all k [] e = tt
left-numbered all k (l ∷ ls) e =
    let n : suc (length ls) ≡ length all - k = ap length e ∙ length-drop k all in
    let o : suc k - 1 ≡ k = omega arith in
    let z : k + 0 ≡ k = omega arith in
    let u : k + 1 ≡ suc k = omega arith in
    let f : get_or all k [] ≡ l = sym (ap first_of e ∙ rw (get_or-drop, z) refl) in
    let d : ls ≡ drop (suc k) all = rw u at (ap (drop 1) e ∙ drop-drop 1 k all) in
    ((omega arith, omega arith, rw o f), left-numbered all (suc k) ls d)
