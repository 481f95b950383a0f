-- A text that begins with another: asked byte by byte, and several bytes at once, as numbers. Assumes nothing.
use mathlib.Core.Path.{◌≡◌, refl, sym, ◌∙◌}
use mathlib.Core.Bool.{Bool, true, false, not, false≢true}
use mathlib.Core.List.{[], ◌∷◌}
use Prim.Native.Nat.{ℕ, zero, suc, ◌+◌, ◌-◌, ◌*◌, ◌≤◌, ◌<◌}
use native.Mathlib.Omega.{arith}
use borrow.Author.Tests.{eq-eqb, ne_eqb, eqb-true, eqb-false, ltb-true, ltb-false, not-true, not-false}
use lib.Dec.{eqb, ltb}
use lib.ListN.{length, get_or, drop, length-drop}
use lib.Seq.{drop-drop}
use Rattle.meaning.specs.Bytes.{Text, ◌and◌, begins}
use Rattle.promises.proofs.Laws.{and_left, and_right}
use Rattle.compare.specs.Word.{number}
use Rattle.compare.proofs.Words.{Bytes, bytes-tail, bytes_drop, number-less}
use Rattle.text.proofs.Rests.{rest-cons, rest_end}
use Rattle.text.proofs.Scans.{byte-is, byte-other}

module _ (p s : Text) (i : ℕ) (inv : begins (drop i p) (drop i s) ≡ begins p s) where
  pub begins-other : length p ≤ length s → i < length p → (get_or s i 0 ≡ get_or p i 0 → ⊥) → false ≡ begins p s
  begins-other l h n = rw (rest-cons p i h, rest-cons s i (omega arith), byte-other _ _ n) at inv

  pub begins-more : length p ≤ length s → i < length p → get_or s i 0 ≡ get_or p i 0 → begins (drop (i + 1) p) (drop (i + 1) s) ≡ begins p s
  begins-more l h e = rw (rest-cons p i h, rest-cons s i (omega arith), byte-is _ _ e) at inv

  pub begins-done : length p ≤ i → true ≡ begins p s
  begins-done h = rw (rest_end p i h) at inv

-- where the first k bytes of both are one number, what follows them decides; else s does not begin with p
number-decides : (k q : ℕ) (p s : Text) → k ≤ length p → k ≤ length s → Bytes p → Bytes s → begins p s ≡ (eqb (number q k s) (number q k p) and begins (drop k p) (drop k s))
number-decides zero q p s m n f g = rw (eq-eqb q q refl)
number-decides (suc k) q [] s m n f g = absurd (omega arith)
number-decides (suc k) q (a ∷ p) [] m n f g = absurd (omega arith)
number-decides (suc k) q (a ∷ p) (x ∷ s) m n f g =
    go (eqb a x) refl (number-decides k (q * 256 + x) p s (omega arith) (omega arith) (bytes-tail a p f) (bytes-tail x s g))
  where
    low : x < a → number (q * 256 + x) k s < number (q * 256 + a) k p
    low h = number-less k (q * 256 + x) (q * 256 + a) s p (omega arith) (omega arith) (bytes-tail x s g) (bytes-tail a p f) (omega arith)

    high : a < x → number (q * 256 + a) k p < number (q * 256 + x) k s
    high h = number-less k (q * 256 + a) (q * 256 + x) p s (omega arith) (omega arith) (bytes-tail a p f) (bytes-tail x s g) (omega arith)

    other : (a ≡ x → ⊥) → number (q * 256 + x) k s ≡ number (q * 256 + a) k p → ⊥
    other d e = sides (ltb a x) (ltb x a) refl refl
      where
        sides : (t u : Bool) → ltb a x ≡ t → ltb x a ≡ u → ⊥
        sides true u h l = omega (arith, high (ltb-true a x h))
        sides false true h l = omega (arith, low (ltb-true x a l))
        sides false false h l = d (omega (arith, ltb-false a x h, ltb-false x a l))

    go : (t : Bool) → eqb a x ≡ t → begins p s ≡ (eqb (number (q * 256 + x) k s) (number (q * 256 + x) k p) and begins (drop k p) (drop k s))
        → (t and begins p s) ≡ (eqb (number (q * 256 + x) k s) (number (q * 256 + a) k p) and begins (drop k p) (drop k s))
    go true e r = rw (eqb-true a x e) r
    go false e r = rw (ne_eqb (number (q * 256 + x) k s) (number (q * 256 + a) k p) (other (eqb-false a x e)))

-- a text that begins with another does so from each place on
begins-later : (j : ℕ) (p s : Text) → begins p s ≡ true → begins (drop j p) (drop j s) ≡ true
begins-later zero p s h = h
begins-later (suc j) [] s h = refl
begins-later (suc j) (a ∷ p) [] h = absurd (false≢true h)
begins-later (suc j) (a ∷ p) (x ∷ s) h = begins-later j p s (and_right (eqb a x) (begins p s) h)

begins-nothing : (p s : Text) → length p ≤ 0 → begins p s ≡ true
begins-nothing [] s h = refl
begins-nothing (a ∷ p) s h = absurd (omega arith)

-- where a text begins with another, k bytes of both that stand in the other are one number
pub begins-number : (j k q : ℕ) (p s : Text) → j + k ≤ length p → begins p s ≡ true → number q k (drop j p) ≡ number q k (drop j s)
begins-number zero zero q p s l h = refl
begins-number zero (suc k) q [] s l h = absurd (omega arith)
begins-number zero (suc k) q (a ∷ p) [] l h = absurd (false≢true h)
begins-number zero (suc k) q (a ∷ p) (x ∷ s) l h =
    rw (eqb-true a x (and_left (eqb a x) (begins p s) h)) (begins-number zero k (q * 256 + x) p s (omega arith) (and_right (eqb a x) (begins p s) h))
begins-number (suc j) k q [] s l h = absurd (omega arith)
begins-number (suc j) k q (a ∷ p) [] l h = absurd (false≢true h)
begins-number (suc j) k q (a ∷ p) (x ∷ s) l h = begins-number j k q p s (omega arith) (and_right (eqb a x) (begins p s) h)

-- the next k bytes of both as numbers decide with what follows them
pub block-decides : (p s : Text) → Bytes p → Bytes s → (k i x y : ℕ) → i + k ≤ length s → i + k ≤ length p → x ≡ number 0 k (drop i s) → y ≡ number 0 k (drop i p)
    → begins (drop i p) (drop i s) ≡ (eqb x y and begins (drop (i + k) p) (drop (i + k) s))
block-decides p s f g k i x y n m d e =
    rw (d, e, ← drop-drop k i p, ← drop-drop k i s)
    (number-decides k 0 (drop i p) (drop i s) (rw length-drop (omega arith)) (rw length-drop (omega arith)) (bytes_drop i p f) (bytes_drop i s g))

-- k bytes from i on are asked
module _ (p s : Text) (k i : ℕ) (r : Bool) (d : begins (drop i p) (drop i s) ≡ (r and begins (drop (i + k) p) (drop (i + k) s))) where
  -- where they differ, all is decided
  pub block-other : not r ≡ true → false ≡ begins p s
  block-other q = go (begins p s) refl
    where
      here : begins (drop i p) (drop i s) ≡ false
      here = rw (not-true r q) at d

      go : (t : Bool) → begins p s ≡ t → false ≡ t
      go true e = absurd (false≢true (sym here ∙ begins-later i p s e))
      go false e = refl

  -- where they are the same, what is left decides as before
  pub block_same : begins (drop i p) (drop i s) ≡ begins p s → not r ≡ false → begins (drop (i + k) p) (drop (i + k) s) ≡ begins p s
  block_same inv q = sym (rw (not-false r q) at d) ∙ inv

  -- where they are the same and the last of p, nothing is left to ask from i on
  block_last : not r ≡ false → length p ≤ i + k → (j : ℕ) → i ≤ j → begins (drop j p) (drop j s) ≡ true
  block_last q l j h =
      let c : i + (j - i) ≡ j = omega arith in
      rw (drop-drop (j - i) i p, drop-drop (j - i) i s, c) at (begins-later (j - i) (drop i p) (drop i s) here)
    where
      here : begins (drop i p) (drop i s) ≡ true
      here = rw (not-false r q, begins-nothing (drop (i + k) p) (drop (i + k) s) (rw length-drop (omega arith))) at d

-- the last eight bytes are the same, and so is each eight before them
pub eights-all : (p s : Text) (i : ℕ) (r : Bool) → 8 ≤ length p → begins (drop (length p - 8) p) (drop (length p - 8) s) ≡ (r and begins (drop (length p - 8 + 8) p) (drop (length p - 8 + 8) s)) → not r ≡ false
    → begins (drop i p) (drop i s) ≡ begins p s → length p - 8 ≤ i → true ≡ begins p s
eights-all p s i r h d q inv l = sym (block_last p s 8 (length p - 8) r d q (omega arith) i l) ∙ inv

-- the last four bytes are the same, and the first four decide
pub fours-first : (p s : Text) (q r : Bool) → 4 ≤ length p → length p < 8 → begins (drop (length p - 4) p) (drop (length p - 4) s) ≡ (q and begins (drop (length p - 4 + 4) p) (drop (length p - 4 + 4) s)) → not q ≡ false
    → begins (drop 0 p) (drop 0 s) ≡ (r and begins (drop (0 + 4) p) (drop (0 + 4) s)) → r ≡ begins p s
fours-first p s q r h l d f e = go r (e ∙ rw (block_last p s 4 (length p - 4) q d f (omega arith) 4 (omega arith)))
  where
    go : (t : Bool) → begins p s ≡ (t and true) → t ≡ begins p s
    go true c = sym c
    go false c = sym c

-- a text begins with none that is longer
pub begins-longer : (p s : Text) → length s < length p → false ≡ begins p s
begins-longer [] s h = absurd (omega arith)
begins-longer (a ∷ p) [] h = refl
begins-longer (a ∷ p) (x ∷ s) h = go (eqb a x) (begins-longer p s (omega arith))
  where
    go : (t : Bool) → false ≡ begins p s → false ≡ (t and begins p s)
    go true e = e
    go false e = refl
