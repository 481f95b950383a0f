-- A `match` on a negative, on its number, and on what a pattern caught. Assumes nothing.
use Prim.Native.Nat.{ℕ, zero, suc, ◌+◌, ◌-◌, ◌*◌, ◌≤◌, ◌<◌}
use native.Mathlib.Omega.{arith}
use mathlib.Core.Path.{◌≡◌, refl, sym, ap, ◌∙◌}
use mathlib.Core.Bool.{Bool, true, false, cond, false≢true}
use Rattle.std.proofs.Math.Bool.{beq}
use mathlib.Core.List.{List}
use lib.ListN.{take, drop}
use Rattle.meaning.specs.Bytes.{Text, bytes, agree, same, present}
use Rattle.meaning.specs.Match.{capture}
use Rattle.buffer.specs.Splice.{splice}
use Rattle.glob.specs.declared.Captured.{Captured}
use Rattle.std.specs.Prelude as std
use Rattle.std.specs.Option.{is_some}
use Rattle.glob.specs.Captures.{capture_meant}
use Rattle.parse.specs.declared.types.Side.{Side}
use Rattle.parse.specs.declared.types.Side.TheVariants as side
use Rattle.parse.specs.declared.types.RefSpec.{RefSpec}
use Rattle.parse.specs.Places.{part_at, is_present}
use Rattle.parse.proofs.Parts.{part_of}
use Rattle.negatives.specs.declared.Negative.{Negative}
use Rattle.negatives.specs.declared.Negative.TheVariants.{Nothing, Head, Literal, Glob}
use Rattle.negatives.specs.Negatives.{negative_numbers, in_place_of_star, negative_matches, NegativeWithin, negative_from}
use Rattle.negatives.specs.Making.{text_negative, side_negative, is_glob, besides, negative_of, negative_four, PutNegative}

-- ---- what four numbers tell

-- 2 is a literal
pub from-two : (kind at len star : ℕ) → kind ≡ 2 → Literal at len ≡ negative_from kind at len star
from-two kind at len star e = rw e

-- and what is neither 0, 1 nor 2 a pattern
pub from-rest : (kind at len star : ℕ) → (kind ≡ 0 → ⊥) → (kind ≡ 1 → ⊥) → (kind ≡ 2 → ⊥) → Glob at len star ≡ negative_from kind at len star
from-rest zero at len star a b c = absurd (a refl)
from-rest (suc zero) at len star a b c = absurd (b refl)
from-rest (suc (suc zero)) at len star a b c = absurd (c refl)
from-rest (suc (suc (suc kind))) at len star a b c = refl

-- ---- what a side and a spec look for

-- the arm of a side that is a part
pub side-part : (s : Text) (σ : Side) (n : Negative) (at len : ℕ) → σ ≡ side.Part at len → n ≡ text_negative s at len → n ≡ side_negative s σ
side-part s σ n at len e h = rw e h

module _ (n d : Negative) (a b : Bool) (ea : a ≡ is_glob n) (eb : b ≡ is_glob d) where
  pub besides-alike : beq a b ≡ true → n ≡ besides n d
  unfolding besides
  besides-alike h = go (is_glob n) (is_glob d) (rw (ea, eb) at h)
    where
      go : (t u : Bool) → beq t u ≡ true → n ≡ cond (agree t u) n Nothing
      go true true k = refl
      go true false k = absurd (false≢true k)
      go false true k = absurd (false≢true k)
      go false false k = refl

  pub besides-other : beq a b ≡ false → Nothing ≡ besides n d
  unfolding besides
  besides-other h = go (is_glob n) (is_glob d) (rw (ea, eb) at h)
    where
      go : (t u : Bool) → beq t u ≡ false → Nothing ≡ cond (agree t u) n Nothing
      go true true k = absurd (false≢true (sym k))
      go true false k = refl
      go false true k = refl
      go false false k = absurd (false≢true (sym k))

module _ (s : Text) (r : RefSpec) (n : Negative) (en : n ≡ side_negative s r.src) (p : Bool) (ep : p ≡ is_present r.dst) where
  -- a spec with a destination
  pub of-both : p ≡ true → (d m : Negative) → d ≡ side_negative s r.dst → m ≡ besides n d → m ≡ negative_of s r
  unfolding negative_of
  of-both t d m ed em = rw (sym ep ∙ t) (rw (en, ed) at em)

  -- and one without
  pub of-source : p ≡ false → n ≡ negative_of s r
  unfolding negative_of
  of-source t = rw (sym ep ∙ t) en

-- ---- whether a negative matches

-- the name `HEAD`
pub matches-head : (s name : Text) (n : Negative) (r : Bool) → n ≡ Head → r ≡ same (bytes "HEAD") name → r ≡ negative_matches s name n
matches-head s name n r e h = rw e h

-- a literal
pub matches-literal : (s name : Text) (n : Negative) (at len : ℕ) (r : Bool) → n ≡ Literal at len → r ≡ same (part_at s at len) name → r ≡ negative_matches s name n
matches-literal s name n at len r e h = rw e h

-- a pattern
pub matches-glob : (s name : Text) (n : Negative) (at len star : ℕ) (r : Bool) → n ≡ Glob at len star → r ≡ present (in_place_of_star (part_at s at len) star name) → r ≡ negative_matches s name n
matches-glob s name n at len star r e h = rw e h

-- a literal within so many bytes
module _ (n : Negative) (at len : ℕ) (e : n ≡ Literal at len) (m : ℕ) (w : NegativeWithin m n) where
  pub literal-within : at + len ≤ m
  literal-within = rw e at w

  pub literal-start : at ≤ m
  literal-start = omega (arith, literal-within)

  pub literal-size : len ≤ m
  literal-size = omega (arith, literal-within)

-- a pattern within so many bytes
module _ (n : Negative) (at len star : ℕ) (e : n ≡ Glob at len star) (m : ℕ) (w : NegativeWithin m n) where
  pub glob-within : at + len ≤ m
  glob-within = let u : NegativeWithin m (Glob at len star) = rw e at w in u.0

  -- and its star within its text
  pub star-within : star < len
  star-within = let u : NegativeWithin m (Glob at len star) = rw e at w in u.1

  pub glob-start : at ≤ m
  glob-start = omega (arith, glob-within)

  pub glob-size : len ≤ m
  glob-size = omega (arith, glob-within)

  pub glob-star : star ≤ m
  glob-star = omega (arith, glob-within, star-within)

-- what stands within so many bytes stands within more
pub within_more : (n : Negative) (m l : ℕ) → m ≤ l → NegativeWithin m n → NegativeWithin l n
within_more Nothing m l h w = tt
within_more Head m l h w = tt
within_more (Literal at len) m l h w = omega arith
within_more (Glob at len star) m l h w = (omega (arith, w.0), w.1)

-- the text of a literal is the slice
pub part_same : (s name : Text) (at len : ℕ) (r : Bool) → r ≡ same (take (at + len - at) (drop at s)) name → r ≡ same (part_at s at len) name
part_same s name at len r h = rw part_of at h

-- and the text of a pattern
pub part-glob : (s name : Text) (at len star : ℕ) (r : Bool) → r ≡ present (capture (take star (take (at + len - at) (drop at s))) (drop (suc star) (take (at + len - at) (drop at s))) name)
    → r ≡ present (in_place_of_star (part_at s at len) star name)
part-glob s name at len star r h = rw part_of at h

-- a capture denotes a text, and none denotes none
captured-present : (name : Text) (c : std.Option Captured) → is_some c ≡ present (capture_meant name c)
captured-present name std.None = refl
captured-present name (std.Some x) = refl

-- what a pattern caught
module _ (s name : Text) (at len star : ℕ) (c : std.Option Captured)
    (h : capture_meant name c ≡ capture (take star (take (at + len - at) (drop at s))) (drop (suc star) (take (at + len - at) (drop at s))) name) where
  caught-is : capture_meant name c ≡ in_place_of_star (part_at s at len) star name
  caught-is = rw part_of at h

  pub caught-present : (r : Bool) → r ≡ is_some c → r ≡ present (in_place_of_star (part_at s at len) star name)
  caught-present r e = e ∙ captured-present name c ∙ ap present caught-is

-- ---- what is put into a table

-- the four numbers tell the negative of an arm
pub four-arm : (before after : List ℕ) (k : ℕ) (n m : Negative) → n ≡ m → after ≡ splice before (negative_numbers * k) (negative_four m) → after ≡ splice before (negative_numbers * k) (negative_four n)
four-arm before after k n m e p = rw e p

pub put-arm : (before after : List ℕ) (k : ℕ) (n m : Negative) → n ≡ m → PutNegative before k m after → PutNegative before k n after
put-arm before after k n m e p = rw e p
