-- What is asked of a text and of one side: its stars and the name rules, questions 5 to 9, and whether it looks like a hash, question 11.
-- Assumes nothing.
use Prim.Native.Nat.{ℕ, zero, suc, ◌+◌}
use native.Mathlib.Nat.{suc-ne-zero}
use native.Mathlib.Numerals.{add-one}
use native.Mathlib.Omega.{arith}
use mathlib.Core.Path.{◌≡◌, refl, sym, ap, ◌∙◌}
use mathlib.Core.Bool.{Bool, true, false, not, cond, true≢false}
use mathlib.Core.List.{[], ◌∷◌}
use mathlib.Core.Option.{Option, none, some}
use borrow.Author.Tests.{lt-leb}
use lib.Dec.{eqb, leb}
use Rattle.meaning.specs.Bytes.{Text, bytes, star, ◌and◌, ◌or◌, any, has_byte, count_if, count}
use Rattle.meaning.specs.Names.{part_passes, parts_pass, no_two_dots, rule_four_byte, no_controls, rule_five_byte, no_globs, slashes_pass, no_last_dot, no_at_brace, not_at, no_backslash, name_passes, side_passes}
use Rattle.meaning.specs.Spec.{◌else◌then◌, starred, has_star, at_most_one_star}
use Rattle.name.specs.declared.NameKind.{NameKind}
use Rattle.name.specs.declared.NameKind.TheVariants.{Name, Pattern, Neither}
use Rattle.name.specs.Rules.{kind_by_stars, kind_of}
use Rattle.name.proofs.Stars.{read_none}
use Rattle.parse.specs.Questions.{text_refusal, side_refusal, side_name_kind, is_pattern}

-- ---- questions 5 to 8

-- where none is counted none stands
count_none : (b : ℕ) (t : Text) → count b t ≡ 0 → has_byte b t ≡ false
count_none b [] e = refl
count_none b (x ∷ t) e = go (eqb b x) (count_none b t) e
  where
    go : (c : Bool) → (count b t ≡ 0 → any (eqb b) t ≡ false) → count_if c (count b t) ≡ 0 → (c or any (eqb b) t) ≡ false
    go true f z = absurd (suc-ne-zero (count b t) z)
    go false f z = f z

-- where one is counted one stands
count-some : (b : ℕ) (t : Text) → (count b t ≡ 0 → ⊥) → has_byte b t ≡ true
count-some b [] n = absurd (n refl)
count-some b (x ∷ t) n = go (eqb b x) (count-some b t) n
  where
    go : (c : Bool) → ((count b t ≡ 0 → ⊥) → any (eqb b) t ≡ true) → (count_if c (count b t) ≡ 0 → ⊥) → (c or any (eqb b) t) ≡ true
    go true f z = refl
    go false f z = f z

module _ (first : ℕ) (free : Bool) (t : Text) where
  -- no star: the name rules decide, unless the text is free
  pub text_plain : count 42 t ≡ 0 → text_refusal first free t ≡ ((free or name_passes t) else first + 1 then 0)
  unfolding text_refusal at_most_one_star starred side_passes
  text_plain z =
      let plain : has_byte star t ≡ false = count_none 42 t z in
      rw (z, plain, read_none t plain, ← add-one first) (go free (name_passes t))
    where
      go : (a b : Bool) → (((a and true) or b) else first + 1 then 0) ≡ ((a or b) else first + 1 then 0)
      go true b = refl
      go false b = refl

  -- one star: the rules on patterns decide
  pub text_pattern : count 42 t ≡ 1 → text_refusal first free t ≡ (side_passes t else first + 1 then 0)
  unfolding text_refusal at_most_one_star starred
  text_pattern e =
      let starry : has_byte star t ≡ true = count-some 42 t (λ z. omega (arith, e)) in
      rw (e, starry, ← add-one first) (go free (side_passes t))
    where
      go : (a b : Bool) → (((a and false) or b) else first + 1 then 0) ≡ (b else first + 1 then 0)
      go true b = refl
      go false b = refl

  -- two stars or more: the first number
  pub text_stars : (count 42 t ≡ 0 → ⊥) → (count 42 t ≡ 1 → ⊥) → text_refusal first free t ≡ first
  unfolding text_refusal at_most_one_star
  text_stars n m = rw (lt-leb (count 42 t) 1 (omega arith))

-- the supplied `HEAD` passes
pub head_passes : (first : ℕ) (free : Bool) → text_refusal first free (bytes "HEAD") ≡ 0
unfolding text_refusal at_most_one_star starred side_passes name_passes parts_pass part_passes no_two_dots no_controls rule_four_byte no_globs rule_five_byte slashes_pass no_last_dot no_at_brace not_at no_backslash
head_passes first true = refl
head_passes first false = refl

-- ---- what a side is by the name rules

-- a kind that passes
abbrev passes : NameKind → Bool
passes Name = true
passes Pattern = true
passes Neither = false

module _ (first : ℕ) (free : Bool) where
  -- a text of such a kind is not refused
  text-passes : (t : Text) → passes (kind_of t) ≡ true → text_refusal first free t ≡ 0
  unfolding kind_of text_refusal at_most_one_star
  text-passes t e = go (side_passes t) (count star t) e
    where
      or-true : (b : Bool) → (b or true) ≡ true
      or-true true = refl
      or-true false = refl

      go : (p : Bool) (n : ℕ) → passes (cond p (kind_by_stars n) Neither) ≡ true → (leb n 1 else first then ((free and not (starred t)) or p) else suc first then 0) ≡ 0
      go true zero e = rw (or-true (free and not (starred t)))
      go true (suc zero) e = rw (or-true (free and not (starred t)))
      go true (suc (suc n)) e = absurd (true≢false (sym e))
      go false n e = absurd (true≢false (sym e))

  -- nor is such a side
  side-passes : (o : Option Text) → passes (side_name_kind o) ≡ true → side_refusal first free o ≡ 0
  side-passes none e = refl
  side-passes (some t) e = text-passes t e

  -- a name
  pub name_kind_passes : (o : Option Text) → Name ≡ side_name_kind o → side_refusal first free o ≡ 0
  name_kind_passes o e = side-passes o (ap passes (sym e))

  -- a pattern
  pub pattern_kind_passes : (o : Option Text) → Pattern ≡ side_name_kind o → side_refusal first free o ≡ 0
  pattern_kind_passes o e = side-passes o (ap passes (sym e))

-- a text that is not refused is a pattern if it has a star
text-star : (n : ℕ) (free : Bool) (t : Text) → text_refusal (suc n) free t ≡ 0 → is_pattern (kind_of t) ≡ starred t
unfolding kind_of text_refusal at_most_one_star starred
text-star n free t e = go (side_passes t) (count star t) refl e
  where
    no_name : (a b : Bool) → b ≡ true → ((a and not b) or false) ≡ false
    no_name true b q = rw q
    no_name false b q = refl

    go : (p : Bool) (k : ℕ) → count star t ≡ k → (leb k 1 else suc n then ((free and not (has_byte star t)) or p) else suc (suc n) then 0) ≡ 0 → is_pattern (cond p (kind_by_stars k) Neither) ≡ has_byte star t
    go true zero q e = sym (count_none star t q)
    go false zero q e = sym (count_none star t q)
    go true (suc zero) q e = sym (count-some star t (λ z. suc-ne-zero 0 (sym q ∙ z)))
    go false (suc zero) q e =
        absurd (suc-ne-zero (suc n) (rw (no_name free (has_byte star t) (count-some star t (λ z. suc-ne-zero 0 (sym q ∙ z)))) at e))
    go p (suc (suc k)) q e = absurd (suc-ne-zero n (rw (lt-leb (suc (suc k)) 1 (omega arith)) at e))

-- and so is a side
pub side-star : (n : ℕ) (free : Bool) (o : Option Text) → side_refusal (suc n) free o ≡ 0 → is_pattern (side_name_kind o) ≡ has_star o
side-star n free none e = refl
side-star n free (some t) e = text-star n free t e

-- the supplied `HEAD` is a name
pub kind_of_head : kind_of (bytes "HEAD") ≡ Name
unfolding kind_of side_passes name_passes parts_pass part_passes no_two_dots no_controls rule_four_byte no_globs rule_five_byte slashes_pass no_last_dot no_at_brace not_at no_backslash
kind_of_head = refl
