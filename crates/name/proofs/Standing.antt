-- How far the bytes of a text stand, and what the text is by that. Assumes nothing.
use mathlib.Core.Path.{◌≡◌, refl, sym, ap, ◌∙◌}
use mathlib.Core.Bool.{Bool, true, false, not, cond, true≢false}
use mathlib.Core.List.{[], ◌∷◌}
use Prim.Native.Nat.{ℕ, suc, ◌+◌, ◌-◌, ◌≤◌, ◌<◌}
use native.Mathlib.Nat.{add-zero, suc-ne-zero}
use native.Mathlib.Omega.{arith}
use borrow.Author.Tests.{eq-eqb, ne_eqb}
use lib.Dec.{eqb, eqb-suc-suc}
use lib.ListN.{length, get_or, take, drop}
use Rattle.std.specs.Char.{is_ascii_lowercase}
use Rattle.std.proofs.lemmas.Bool.Decides.{nat_tests}
use Rattle.meaning.specs.Bytes.{Text, star, ◌and◌, ◌or◌, count_if, count}
use Rattle.meaning.specs.Names.{rule_four_byte, rule_five_byte, not_at}
use Rattle.text.proofs.Classes.{span}
use Rattle.text.proofs.Rests.{rest-cons, rest_end, rest_part}
use Rattle.name.specs.declared.NameKind.{NameKind}
use Rattle.name.specs.declared.NameKind.TheVariants.{Name, Pattern, Neither}
use Rattle.name.specs.Rules.{name_byte, after_dot, after_slash, after_at_sign, stands, standing, kind_by_stars, kind_of}
use Rattle.name.proofs.Tails.{tails}
use Rattle.name.proofs.Stars.{star_or_stands, side-row}

-- ---- bytes that stand before anything

-- a byte that stands whatever follows it
abbrev pub anywhere : ℕ → Bool
anywhere x = not (eqb 46 x) and (not (eqb 47 x) and (not (eqb 64 x) and name_byte x))

pub anywhere-stands : (x : ℕ) (s : Text) → true ≡ anywhere x → true ≡ stands x s
unfolding stands
anywhere-stands x s e = go (eqb 46 x) (eqb 47 x) (eqb 64 x) e
  where
    go : (a b c : Bool) → true ≡ (not a and (not b and (not c and name_byte x))) → true ≡ cond a (after_dot s) (cond b (after_slash s) (cond c (after_at_sign s) (name_byte x)))
    go true b c e = absurd (true≢false e)
    go false true c e = absurd (true≢false e)
    go false false true e = absurd (true≢false e)
    go false false false e = e

-- small letters and digits do
pub letter-stands : (x : ℕ) (s : Text) → is_ascii_lowercase x ≡ true → stands x s ≡ true
unfolding name_byte rule_four_byte rule_five_byte
letter-stands x s e =
    let l : 97 ≤ x = grind (arith, nat_tests) in
    let h : x < 123 = grind (arith, nat_tests) in
    sym (anywhere-stands x s (span anywhere true [] 97 26 tt x l h (λ z. z)))

pub digit-stands : (x : ℕ) (s : Text) → 48 ≤ x → x < 58 → true ≡ stands x s
unfolding name_byte rule_four_byte rule_five_byte
digit-stands x s l h = anywhere-stands x s (span anywhere true [] 48 10 tt x l h (λ z. z))

-- ---- one step of the look: what is left of the text stands as far as the whole

-- past a small letter
pub standing-letter : (s : Text) (from i : ℕ) (r : Bool) → i + standing (drop i s) ≡ from + standing (drop from s) → i < length s → r ≡ is_ascii_lowercase (get_or s i 0) → r ≡ true
    → i + 1 + standing (drop (i + 1) s) ≡ from + standing (drop from s)
standing-letter s from i r inv h e t =
    let g : i + suc (standing (drop (i + 1) s)) ≡ from + standing (drop from s) = rw (rest-cons s i h, letter-stands (get_or s i 0) (drop (i + 1) s) (sym e ∙ t)) at inv in
    omega arith

module _ (s : Text) (i : ℕ) (inv : i + standing (drop i s) ≡ standing s) where
  module _ (r : Bool) (h : i < length s) (e : r ≡ stands (get_or s i 0) (drop (i + 1) s)) where
    -- at a byte that does not stand
    pub standing_here : r ≡ false → i ≡ standing s
    standing_here f = sym (add-zero i) ∙ rw (rest-cons s i h, sym e ∙ f) at inv

    -- past one that does, and the small letters after it
    pub standing-more : (j : ℕ) → r ≡ true → j + standing (drop j s) ≡ i + 1 + standing (drop (i + 1) s) → j + standing (drop j s) ≡ standing s
    standing-more j t n =
        let g : i + suc (standing (drop (i + 1) s)) ≡ standing s = rw (rest-cons s i h, sym e ∙ t) at inv in
        omega arith

  -- at the end
  pub standing-end : length s ≤ i → i ≡ standing s
  standing-end h = sym (add-zero i) ∙ rw (rest_end s i h) at inv

-- ---- the place where the bytes no longer stand

-- the first byte of a text stands
abbrev pub head_stands : Text → Bool
head_stands [] = false
head_stands (x ∷ s) = stands x s

head-stuck : (s : Text) → head_stands (drop (standing s) s) ≡ false
head-stuck [] = refl
head-stuck (x ∷ s) = go (stands x s) refl (head-stuck s)
  where
    go : (b : Bool) → stands x s ≡ b → head_stands (drop (standing s) s) ≡ false → head_stands (drop (cond b (suc (standing s)) 0) (x ∷ s)) ≡ false
    go true e r = r
    go false e r = e

or-true : (b : Bool) → (b or true) ≡ true
or-true true = refl
or-true false = refl

tails-skip : (s : Text) → tails star_or_stands (drop (standing s) s) ≡ tails star_or_stands s
tails-skip [] = refl
tails-skip (x ∷ s) = go (stands x s) refl (tails-skip s)
  where
    go : (b : Bool) → stands x s ≡ b → tails star_or_stands (drop (standing s) s) ≡ tails star_or_stands s
        → tails star_or_stands (drop (cond b (suc (standing s)) 0) (x ∷ s)) ≡ ((eqb star x or stands x s) and tails star_or_stands s)
    go true e r = rw (e, or-true (eqb star x)) r
    go false e r = refl

-- no star stands
pub stands-star : (s : Text) → stands star s ≡ false
unfolding stands name_byte rule_four_byte rule_five_byte
stands-star s = refl

star-falls : (x : ℕ) (s : Text) → stands x s ≡ true → eqb star x ≡ false
star-falls x s e = ne_eqb star x (λ q. true≢false (sym (rw (← q) at e) ∙ stands-star s))

count-skip : (s : Text) → count star (drop (standing s) s) ≡ count star s
count-skip [] = refl
count-skip (x ∷ s) = go (stands x s) refl (count-skip s)
  where
    go : (b : Bool) → stands x s ≡ b → count star (drop (standing s) s) ≡ count star s
        → count star (drop (cond b (suc (standing s)) 0) (x ∷ s)) ≡ count_if (eqb star x) (count star s)
    go true e r = rw (star-falls x s e) r
    go false e r = refl

-- ---- a name: all its bytes stand

all-stand : (s : Text) → eqb (standing s) (length s) ≡ tails stands s
all-stand [] = refl
all-stand (x ∷ s) = go (stands x s) (all-stand s)
  where
    go : (b : Bool) → eqb (standing s) (length s) ≡ tails stands s → eqb (cond b (suc (standing s)) 0) (suc (length s)) ≡ (b and tails stands s)
    go true r = eqb-suc-suc (standing s) (length s) ∙ r
    go false r = ne_eqb 0 (suc (length s)) (λ q. suc-ne-zero (length s) (sym q))

pub name-stands : (s : Text) (i : ℕ) → i ≡ standing s → eqb i (length s) ≡ tails stands s
name-stands s i e = rw e (all-stand s)

-- ---- a pattern: each byte stands, or is a star

module _ (s : Text) (i : ℕ) (inv : tails star_or_stands (drop i s) ≡ tails star_or_stands s) where
  pub pattern-star : i < length s → get_or s i 0 ≡ 42 → tails star_or_stands (drop (i + 1) s) ≡ tails star_or_stands s
  pattern-star h e = rw (rest-cons s i h, eq-eqb star (get_or s i 0) (sym e)) at inv

  module _ (r : Bool) (h : i < length s) (e : r ≡ stands (get_or s i 0) (drop (i + 1) s)) where
    pub pattern-fails : r ≡ false → (get_or s i 0 ≡ 42 → ⊥) → false ≡ tails star_or_stands s
    pattern-fails f n = rw (rest-cons s i h, ne_eqb star (get_or s i 0) (λ q. n (sym q)), sym e ∙ f) at inv

    pub pattern-stands : r ≡ true → tails star_or_stands (drop (i + 1) s) ≡ tails star_or_stands s
    pattern-stands t = rw (rest-cons s i h, sym e ∙ t, or-true (eqb star (get_or s i 0))) at inv

  pub pattern-done : length s ≤ i → true ≡ tails star_or_stands s
  pattern-done h = rw (rest_end s i h) at inv

-- ---- which of the two

-- what the number of stars in a rest makes of it, where the rest passes
abbrev kind_after : (ℕ → NameKind) → Text → NameKind
kind_after by_stars s = cond (tails star_or_stands s) (by_stars (count star s)) Neither

-- one star stands before the rest
abbrev kind_by_more : ℕ → NameKind
kind_by_more n = kind_by_stars (suc n)

same-either : (b : Bool) → cond b Neither Neither ≡ Neither
same-either true = refl
same-either false = refl

-- the bytes that stand change nothing
kind-skip : (f : ℕ → NameKind) (s : Text) (i : ℕ) → i ≡ standing s → kind_after f s ≡ kind_after f (drop i s)
kind-skip f s i e = rw (e, tails-skip s, count-skip s)

-- a rest whose first byte does not stand
kind-stuck : (f : ℕ → NameKind) (x : ℕ) (s : Text) → stands x s ≡ false → eqb star x ≡ false → kind_after f (x ∷ s) ≡ Neither
kind-stuck f x s e n = rw (n, e)

-- the place of the first byte that does not stand, before the end
module _ (s : Text) (i : ℕ) (e : i ≡ standing s) (h : i < length s) where
  rest-is : drop i s ≡ get_or s i 0 ∷ drop (i + 1) s
  rest-is = rest-cons s i h

  stuck : stands (get_or s i 0) (drop (i + 1) s) ≡ false
  stuck = let k : head_stands (drop i s) ≡ false = rw e (head-stuck s) in rw rest-is at k

-- after a star a second makes the text neither
kind-more : (s : Text) (i : ℕ) → i ≡ standing s → i < length s → kind_after kind_by_more s ≡ Neither
kind-more s i e h = kind-skip kind_by_more s i e ∙ ap (kind_after kind_by_more) (rest-is s i e h) ∙ go (eqb star (get_or s i 0)) refl
  where
    go : (c : Bool) → eqb star (get_or s i 0) ≡ c → kind_after kind_by_more (get_or s i 0 ∷ drop (i + 1) s) ≡ Neither
    go true q = rw q (same-either (tails star_or_stands (drop (i + 1) s)))
    go false q = kind-stuck kind_by_more (get_or s i 0) (drop (i + 1) s) (stuck s i e h) q

module _ (s : Text) (b : Bool) (o : b ≡ (after_slash s and not_at s)) where
  pub kind-closed : b ≡ false → Neither ≡ kind_of s
  unfolding kind_of
  kind-closed f = rw (side-row s, sym o ∙ f)

  module _ (opened : b ≡ true) (i : ℕ) (e : i ≡ standing s) where
    kind-from : kind_of s ≡ kind_after kind_by_stars (drop i s)
    unfolding kind_of
    kind-from = rw (side-row s, sym o ∙ opened) (kind-skip kind_by_stars s i e)

    pub kind-name : i ≡ length s → Name ≡ kind_of s
    kind-name h = sym (kind-from ∙ ap (kind_after kind_by_stars) (rest_end s i (omega arith)))

    module _ (within : i ≤ length s) (some : i ≡ length s → ⊥) where
      h : i < length s
      h = omega arith

      pub kind-other : (get_or s i 0 ≡ 42 → ⊥) → Neither ≡ kind_of s
      kind-other n =
          sym (kind-from ∙ ap (kind_after kind_by_stars) (rest-is s i e h)
          ∙ kind-stuck kind_by_stars (get_or s i 0) (drop (i + 1) s) (stuck s i e h) (ne_eqb star (get_or s i 0) (λ q. n (sym q))))

      module _ (starred : get_or s i 0 ≡ 42) (j : ℕ) (f : j ≡ standing (take (length s - (i + 1)) (drop (i + 1) s))) where
        kind-further : kind_of s ≡ kind_after kind_by_more (take (length s - (i + 1)) (drop (i + 1) s))
        kind-further = kind-from ∙ ap (kind_after kind_by_stars) (rest-is s i e h) ∙ rw (eq-eqb star (get_or s i 0) (sym starred), rest_part s (i + 1))

        pub kind-pattern : j ≡ length (take (length s - (i + 1)) (drop (i + 1) s)) → Pattern ≡ kind_of s
        kind-pattern q =
            sym (kind-further ∙ kind-skip kind_by_more (take (length s - (i + 1)) (drop (i + 1) s)) j f
            ∙ ap (kind_after kind_by_more) (rest_end (take (length s - (i + 1)) (drop (i + 1) s)) j (omega arith)))

        pub kind-two : j ≤ length (take (length s - (i + 1)) (drop (i + 1) s)) → (j ≡ length (take (length s - (i + 1)) (drop (i + 1) s)) → ⊥) → Neither ≡ kind_of s
        kind-two l n = sym (kind-further ∙ kind-more (take (length s - (i + 1)) (drop (i + 1) s)) j f (omega arith))
