-- A text that stands in two pieces or three: what it begins with, ends with and is, by the pieces. Assumes nothing.
use mathlib.Core.Path.{◌≡◌, refl, sym, ap, ◌∙◌}
use mathlib.Core.Bool.{Bool, true, false, not}
use mathlib.Core.List.{[], ◌∷◌, ◌++◌, append_assoc}
use Prim.Native.Nat.{ℕ, suc, ◌+◌, ◌-◌, ◌≤◌, ◌<◌}
use native.Mathlib.Omega.{arith}
use native.Mathlib.Numerals.{add-one}
use borrow.Author.Tests.{not-true, not-false, eq-eqb, ne_eqb, eqb-true, eqb-false, le-leb, lt-leb, leb-true, leb-false}
use lib.Dec.{eqb, leb}
use lib.ListN.{length, take, drop, length-append, length-take, length-drop}
use lib.Seq.{drop-append_seam, drop-append-le, drop-drop}
use Rattle.meaning.specs.Bytes.{Text, ◌and◌, same, begins, ends, after, before, present}
use Rattle.meaning.specs.Match.{before_in, capture}
use Rattle.promises.proofs.Laws.{same_refl}
use Rattle.promises.proofs.Captures.{begins-is, ends_is, ends-append}
use Rattle.text.proofs.Rests.{rest_part}
use Rattle.text.proofs.Rows.{and-true, and-false}
use Rattle.compare.proofs.Sames.{eqb_swap, same-swap, begins-whole, same-other-length, ends-never}

-- ---- the sum of three lengths

-- each test of a length against a sum, one summand after the other
module _ (n a b c : ℕ) where
  pub sum_below : n < a → false ≡ eqb n (a + (b + c))
  sum_below h = sym (ne_eqb n (a + (b + c)) (λ e. omega arith))

  pub sum-short : a ≤ n → n - a < b → false ≡ eqb n (a + (b + c))
  sum-short k h = sym (ne_eqb n (a + (b + c)) (λ e. omega arith))

  pub sum-last : a ≤ n → b ≤ n - a → eqb (n - a - b) c ≡ eqb n (a + (b + c))
  sum-last k h = go (eqb (n - a - b) c) refl
    where
      go : (t : Bool) → eqb (n - a - b) c ≡ t → t ≡ eqb n (a + (b + c))
      go true e = sym (eq-eqb n (a + (b + c)) (omega (arith, eqb-true (n - a - b) c e)))
      go false e = sym (ne_eqb n (a + (b + c)) (λ q. eqb-false (n - a - b) c e (omega arith)))

  pub at-most-first : n ≤ a → true ≡ leb n (a + (b + c))
  at-most-first h = sym (le-leb n (a + (b + c)) (omega arith))

  pub at-most-second : a < n → n - a ≤ b → true ≡ leb n (a + (b + c))
  at-most-second k h = sym (le-leb n (a + (b + c)) (omega arith))

  pub at-most-third : a < n → b < n - a → leb (n - a - b) c ≡ leb n (a + (b + c))
  at-most-third k h = go (leb (n - a - b) c) refl
    where
      go : (t : Bool) → leb (n - a - b) c ≡ t → t ≡ leb n (a + (b + c))
      go true e = sym (le-leb n (a + (b + c)) (omega (arith, leb-true (n - a - b) c e)))
      go false e = sym (lt-leb n (a + (b + c)) (omega (arith, leb-false (n - a - b) c e)))

-- ---- the start of two pieces

-- a start that is no longer than the first piece is the first piece's
begins-first : (p a b : Text) → length p ≤ length a → begins p (a ++ b) ≡ begins p a
begins-first [] a b h = refl
begins-first (x ∷ p) [] b h = absurd (omega arith)
begins-first (x ∷ p) (y ∷ a) b h = ap (λ (t : Bool). eqb x y and t) (begins-first p a b (omega arith))

pub and_assoc : (x y z : Bool) → ((x and y) and z) ≡ (x and (y and z))
and_assoc true y z = refl
and_assoc false y z = refl

-- one that is no shorter begins with it, and what follows begins the second
begins-both : (p a b : Text) → length a ≤ length p → begins p (a ++ b) ≡ (begins a p and begins (drop (length a) p) b)
begins-both p [] b h = refl
begins-both [] (y ∷ a) b h = absurd (omega arith)
begins-both (x ∷ p) (y ∷ a) b h =
    rw (eqb_swap x y, begins-both p a b (omega arith)) (sym (and_assoc (eqb y x) (begins a p) (begins (drop (length a) p) b)))

module _ (p a b : Text) where
  pub begins-short : length p ≤ length a → (r : Bool) → r ≡ begins p a → r ≡ begins p (a ++ b)
  begins-short h r e = e ∙ sym (begins-first p a b h)

  module _ (h : length a < length p) (r : Bool) (e : r ≡ begins (take (length p - length a) (drop (length a) p)) b) where
    past : begins (drop (length a) p) b ≡ r
    past = ap (λ (t : Text). begins t b) (sym (rest_part p (length a))) ∙ sym e

    pub begins-not : not r ≡ true → false ≡ begins p (a ++ b)
    begins-not n = sym (begins-both p a b (omega arith) ∙ rw (past, not-true r n) (and-false (begins a p)))

    pub begins-on : not r ≡ false → (v : Bool) → v ≡ begins a p → v ≡ begins p (a ++ b)
    begins-on n v k = k ∙ sym (begins-both p a b (omega arith) ∙ rw (past, not-false r n) (and-true (begins a p)))

-- ---- the end of two pieces

-- an end that is no longer than the second piece is the second piece's
ends-second : (q a b : Text) → length q ≤ length b → ends q (a ++ b) ≡ ends q b
ends-second q [] b h = refl
ends-second q (x ∷ a) b h = rw (same-other-length q (x ∷ (a ++ b)) (λ e. omega (arith, length-append a b))) (ends-second q a b h)

-- two texts with one end
same-before : (s t b : Text) → same (s ++ b) (t ++ b) ≡ same s t
same-before [] [] b = same_refl b
same-before [] (y ∷ t) b = same-other-length b (y ∷ (t ++ b)) (λ e. omega (arith, length-append t b))
same-before (x ∷ s) [] b = same-other-length (x ∷ (s ++ b)) b (λ e. omega (arith, length-append s b))
same-before (x ∷ s) (y ∷ t) b = ap (λ (r : Bool). eqb x y and r) (same-before s t b)

ends-before : (s a b : Text) → ends (s ++ b) (a ++ b) ≡ ends s a
ends-before [] [] b = ends-append b []
ends-before (x ∷ s) [] b = sym (ends-never b (x ∷ (s ++ b)) (omega (arith, length-append s b)))
ends-before s (x ∷ a) b = rw (same-before s (x ∷ a) b, ends-before s a b)

-- as many bytes are before the last ones
pub taken-before : (q b : Text) → length q - length b ≡ length (take (length q - length b) q)
taken-before q b = omega (arith, length-take (length q - length b) q)

-- what ends with q, which is no shorter than b, and with b, has b at the end of q
ends-shared : (q a b : Text) → length b ≤ length q → ends q (a ++ b) ≡ true → ends b q ≡ true
ends-shared q a b h t =
    let k = length (a ++ b) - length q in
    let w = ends_is q (a ++ b) t in
    let l : length (take k (a ++ b)) ≡ k = length-take k (a ++ b) ∙ omega arith in
    let d : drop k (a ++ b) ≡ q = ap (drop k) w ∙ ap (λ (j : ℕ). drop j (take k (a ++ b) ++ q)) (sym l) ∙ drop-append_seam (take k (a ++ b)) q in
    let m : drop k (a ++ b) ≡ drop k a ++ b = drop-append-le k a b (omega (arith, length-append a b)) in
    rw (sym d ∙ m) (ends-append b (drop k a))

-- an end that is no shorter than the second piece ends with it, and what is before ends the first
ends-both : (q a b : Text) → length b ≤ length q → ends q (a ++ b) ≡ (ends b q and ends (take (length q - length b) q) a)
ends-both q a b h = go (ends b q) refl
  where
    never : ends b q ≡ false → (t : Bool) → ends q (a ++ b) ≡ t → t ≡ false
    never n false u = refl
    never n true u = sym (ends-shared q a b h u) ∙ n

    go : (r : Bool) → ends b q ≡ r → ends q (a ++ b) ≡ (r and ends (take (length q - length b) q) a)
    go true e = ap (λ (t : Text). ends t (a ++ b)) (ends_is b q e) ∙ ends-before (take (length q - length b) q) a b
    go false e = never e (ends q (a ++ b)) refl

module _ (q a b : Text) where
  pub ends-short : length q ≤ length b → (r : Bool) → r ≡ ends q b → r ≡ ends q (a ++ b)
  ends-short h r e = e ∙ sym (ends-second q a b h)

  module _ (h : length b < length q) (r : Bool) (e : r ≡ ends (take (length q - length b) q) a) where
    pub ends-not : not r ≡ true → false ≡ ends q (a ++ b)
    ends-not n = sym (ends-both q a b (omega arith) ∙ rw (sym e ∙ not-true r n) (and-false (ends b q)))

    pub ends_on : not r ≡ false → (v : Bool) → v ≡ ends b q → v ≡ ends q (a ++ b)
    ends_on n v k = k ∙ sym (ends-both q a b (omega arith) ∙ rw (sym e ∙ not-false r n) (and-true (ends b q)))

-- ---- three pieces

pieces-length : (a b c : Text) → length (a ++ (b ++ c)) ≡ length a + (length b + length c)
pieces-length a b c = simp length-append

-- a text of their length is the three pieces where each stands in it
same_parts : (t a b c : Text) → length t ≡ length a + (length b + length c) → same t (a ++ (b ++ c)) ≡ (begins a t and (begins b (drop (length a) t) and begins c (drop (length a + length b) t)))
same_parts t a b c h =
    sym (begins-whole t (a ++ (b ++ c)) (pieces-length a b c ∙ sym h))
    ∙ begins-both t a (b ++ c) (omega arith)
    ∙ ap (λ (r : Bool). begins a t and r) (begins-both (drop (length a) t) b c (omega (arith, second)) ∙ ap (λ (r : Bool). begins b (drop (length a) t) and r) last)
  where
    second : length (drop (length a) t) ≡ length b + length c
    second = length-drop (length a) t ∙ omega arith

    third : length (drop (length a + length b) t) ≡ length c
    third = length-drop (length a + length b) t ∙ omega arith

    last : begins (drop (length b) (drop (length a) t)) c ≡ begins c (drop (length a + length b) t)
    last =
        rw (drop-drop (length b) (length a) t)
        (begins-whole (drop (length a + length b) t) c (sym third) ∙ same-swap (drop (length a + length b) t) c ∙ sym (begins-whole c (drop (length a + length b) t) third))

-- the whole text
module _ (t a b c : Text) (r : Bool) (e : r ≡ eqb (length t) (length a + (length b + length c))) where
  -- by its length
  pub same_not : not r ≡ true → false ≡ same t (a ++ (b ++ c))
  same_not n = sym (same-other-length t (a ++ (b ++ c)) (λ q. eqb-false (length t) (length a + (length b + length c)) (sym e ∙ not-true r n) (q ∙ pieces-length a b c)))

  module _ (n : not r ≡ false) where
    long : length t ≡ length a + (length b + length c)
    long = eqb-true (length t) (length a + (length b + length c)) (sym e ∙ not-false r n)

    -- the pieces stand within it
    pub second-start : length a ≤ length t
    second-start = omega (arith, long)

    pub third-start : length a + length b ≤ length t
    third-start = omega (arith, long)

    module _ (u : Bool) (k : u ≡ begins b (take (length t - length a) (drop (length a) t))) where
      second : begins b (drop (length a) t) ≡ u
      second = ap (begins b) (sym (rest_part t (length a))) ∙ sym k

      -- by the second piece
      pub same_second : not u ≡ true → false ≡ same t (a ++ (b ++ c))
      same_second m = sym (same_parts t a b c long ∙ rw (second, not-true u m) (and-false (begins a t)))

      module _ (m : not u ≡ false) (x : Bool) (l : x ≡ begins a t) where
        rest : same t (a ++ (b ++ c)) ≡ (x and begins c (drop (length a + length b) t))
        rest = rw (← l, second, not-false u m) at (same_parts t a b c long)

        -- by the first
        pub same_first : not x ≡ true → false ≡ same t (a ++ (b ++ c))
        same_first f = sym (rw (not-true x f) at rest)

        -- and by the third
        pub same-third : not x ≡ false → (v : Bool) → v ≡ begins c (take (length t - (length a + length b)) (drop (length a + length b) t)) → v ≡ same t (a ++ (b ++ c))
        same-third f v q = q ∙ ap (begins c) (rest_part t (length a + length b)) ∙ sym (rw (not-false x f) at rest)

-- ---- a start and an end that do not overlap

-- an end of what follows a start
ends-after : (q p s : Text) → ends q s ≡ (leb (length p + length q) (length (p ++ s)) and ends q (p ++ s))
ends-after q p s = go (leb (length p + length q) (length (p ++ s))) refl
  where
    go : (t : Bool) → leb (length p + length q) (length (p ++ s)) ≡ t → ends q s ≡ (t and ends q (p ++ s))
    go true e = sym (ends-second q p s (omega (arith, leb-true (length p + length q) (length (p ++ s)) e, length-append p s)))
    go false e = sym (ends-never s q (omega (arith, leb-false (length p + length q) (length (p ++ s)) e, length-append p s)))

-- what is caught, by length, start and end
captures : (p q name : Text) → present (capture p q name) ≡ (leb (length p + length q) (length name) and (begins p name and ends q name))
unfolding capture
captures p q name = go (begins p name) refl
  where
    caught : (b : Bool) (t : Text) → ends q t ≡ b → present (before q t) ≡ b
    caught true t e = rw e
    caught false t e = rw e

    go : (b : Bool) → begins p name ≡ b → present (before_in q (after p name)) ≡ (leb (length p + length q) (length name) and (b and ends q name))
    go false e = rw (e, and-false (leb (length p + length q) (length name)))
    go true e =
        let w = begins-is p name e in
        let s = drop (length p) name in
        let k : ends q s ≡ (leb (length p + length q) (length name) and ends q name) = rw (← w) at (ends-after q p s) in
        rw e (caught (leb (length p + length q) (length name) and ends q name) s k)

-- a text with a star at a place, on three pieces
module _ (t : Text) (star : ℕ) (h : star < length t) (a b c : Text) where
  sides : length (take star t) + length (drop (suc star) t) ≡ length t - 1
  sides = simp (length-take, length-drop) (omega arith)

  by_parts : present (capture (take star t) (drop (suc star) t) (a ++ (b ++ c)))
      ≡ (leb (length t - 1) (length a + (length b + length c)) and (begins (take star t) (a ++ (b ++ c)) and ends (drop (suc star) t) ((a ++ b) ++ c)))
  by_parts = captures (take star t) (drop (suc star) t) (a ++ (b ++ c)) ∙ rw (sides, pieces-length a b c, append_assoc a b c)

  module _ (r : Bool) (e : r ≡ leb (length t - 1) (length a + (length b + length c))) where
    -- too short
    pub star-short : not r ≡ true → false ≡ present (capture (take star t) (drop (suc star) t) (a ++ (b ++ c)))
    star-short n = let f : leb (length t - 1) (length a + (length b + length c)) ≡ false = sym e ∙ not-true r n in sym (rw f at by_parts)

    module _ (n : not r ≡ false) (u : Bool) (k : u ≡ begins (take star t) (a ++ (b ++ c))) where
      long-enough : present (capture (take star t) (drop (suc star) t) (a ++ (b ++ c))) ≡ (u and ends (drop (suc star) t) ((a ++ b) ++ c))
      long-enough = let f : leb (length t - 1) (length a + (length b + length c)) ≡ true = sym e ∙ not-false r n in rw (f, ← k) at by_parts

      -- with another start
      pub star-start : not u ≡ true → false ≡ present (capture (take star t) (drop (suc star) t) (a ++ (b ++ c)))
      star-start m = sym (rw (not-true u m) at long-enough)

      -- the end decides
      pub star-end : not u ≡ false → (v : Bool) → v ≡ ends (take (length t - (star + 1)) (drop (star + 1) t)) ((a ++ b) ++ c) → v ≡ present (capture (take star t) (drop (suc star) t) (a ++ (b ++ c)))
      star-end m v l =
          l ∙ ap (λ (s : Text). ends s ((a ++ b) ++ c)) (rest_part t (star + 1) ∙ ap (λ (j : ℕ). drop j t) (add-one star)) ∙ sym (rw (not-false u m) at long-enough)
