-- To read the stars of a text as the letter a changes none of the rules but that no star stands. Assumes nothing.
use mathlib.Core.Path.{◌≡◌, refl, sym, ap, ap₂, ◌∙◌}
use mathlib.Core.Bool.{Bool, true, false, not, cond, true≢false}
use mathlib.Core.List.{[], ◌∷◌}
use Prim.Native.Nat.{ℕ}
use borrow.Author.Tests.{eqb-true}
use lib.Dec.{T, eqb}
use Rattle.meaning.specs.Bytes.{Text, bytes, star, ◌and◌, ◌or◌, every, empty, same, begins, has_byte}
use Rattle.meaning.specs.Names.{rule_four_byte, rule_five_byte, not_at, star_as_letter, side_passes}
use Rattle.compare.proofs.Sames.{same-swap}
use Rattle.name.specs.Rules.{name_byte, rest_of_lock, after_dot, after_slash, after_at_sign, stands}
use Rattle.name.proofs.Tails.{tails}
use Rattle.name.proofs.Names.{name-row}

-- neither a star nor an a
abbrev avoids : ℕ → Bool
avoids a = not (eqb a 97) and not (eqb a star)

both_left : (a b : Bool) → T (a and b) → T a
both_left true b t = tt
both_left false b t = t

both_right : (a b : Bool) → T (a and b) → T b
both_right true b t = t
both_right false b t = absurd t

un : (b : Bool) → T (not b) → b ≡ false
un true t = absurd t
un false t = refl

read_byte : (a x : ℕ) → T (avoids a) → eqb a (cond (eqb star x) 97 x) ≡ eqb a x
read_byte a x t = go (eqb star x) refl
  where
    go : (b : Bool) → eqb star x ≡ b → eqb a (cond b 97 x) ≡ eqb a x
    go true e =
        un (eqb a 97) (both_left (not (eqb a 97)) (not (eqb a star)) t)
        ∙ sym (rw (← eqb-true star x e) (un (eqb a star) (both_right (not (eqb a 97)) (not (eqb a star)) t)))
    go false e = refl

read_same : (p s : Text) → T (every avoids p) → same p (star_as_letter s) ≡ same p s
read_same [] [] t = refl
read_same [] (x ∷ s) t = refl
read_same (a ∷ p) [] t = refl
read_same (a ∷ p) (x ∷ s) t = ap₂ ◌and◌ (read_byte a x (both_left (avoids a) (every avoids p) t)) (read_same p s (both_right (avoids a) (every avoids p) t))

read_is : (s p : Text) → T (every avoids p) → same (star_as_letter s) p ≡ same s p
read_is s p t = same-swap (star_as_letter s) p ∙ read_same p s t ∙ same-swap p s

read-begins : (p s : Text) → T (every avoids p) → begins p (star_as_letter s) ≡ begins p s
read-begins [] s t = refl
read-begins (a ∷ p) [] t = refl
read-begins (a ∷ p) (x ∷ s) t = ap₂ ◌and◌ (read_byte a x (both_left (avoids a) (every avoids p) t)) (read-begins p s (both_right (avoids a) (every avoids p) t))

read-empty : (s : Text) → empty (star_as_letter s) ≡ empty s
read-empty [] = refl
read-empty (x ∷ s) = refl

-- so what may follow a byte is the same
module _ (s : Text) where
  read-dot : after_dot (star_as_letter s) ≡ after_dot s
  unfolding after_dot rest_of_lock
  read-dot = rw (read-empty s, read-begins (bytes ".") s tt, read_is s (bytes "lock") tt, read-begins (bytes "lock/") s tt)

  read-slash : after_slash (star_as_letter s) ≡ after_slash s
  unfolding after_slash
  read-slash = rw (read-empty s, read-begins (bytes "/") s tt, read-begins (bytes ".") s tt)

  read_at : after_at_sign (star_as_letter s) ≡ after_at_sign s
  unfolding after_at_sign
  read_at = rw (read-begins (bytes "{") s tt)

  read-not_at : not_at (star_as_letter s) ≡ not_at s
  unfolding not_at
  read-not_at = ap not (read_is s (bytes "@") tt)

  -- and a byte stands as before, or is a star
  read-stands : (x : ℕ) → stands (cond (eqb star x) 97 x) (star_as_letter s) ≡ (eqb star x or stands x s)
  unfolding stands name_byte rule_four_byte rule_five_byte
  read-stands x = go (eqb star x)
    where
      go : (b : Bool) → stands (cond b 97 x) (star_as_letter s) ≡ (b or stands x s)
      go true = refl
      go false = rw (read-dot, read-slash, read_at)

-- a byte that stands, or a star
abbrev pub star_or_stands : ℕ → Text → Bool
star_or_stands x s = eqb star x or stands x s

read-tails : (s : Text) → tails stands (star_as_letter s) ≡ tails star_or_stands s
read-tails [] = refl
read-tails (x ∷ s) = ap₂ ◌and◌ (read-stands s x) (read-tails s)

-- a side passes if it opens well and its bytes stand, or are stars
pub side-row : (s : Text) → side_passes s ≡ ((after_slash s and not_at s) and tails star_or_stands s)
unfolding side_passes
side-row s = rw (name-row (star_as_letter s), read-slash s, read-not_at s, read-tails s)

-- a text with no star is read as it stands
pub read_none : (s : Text) → has_byte star s ≡ false → star_as_letter s ≡ s
read_none [] e = refl
read_none (x ∷ s) e = go (eqb star x) (read_none s) e
  where
    go : (b : Bool) → (has_byte star s ≡ false → star_as_letter s ≡ s) → (b or has_byte star s) ≡ false → cond b 97 x ∷ star_as_letter s ≡ x ∷ s
    go true r e = absurd (true≢false e)
    go false r e = ap (λ (t : Text). x ∷ t) (r e)
