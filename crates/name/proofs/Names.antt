-- The manual's rules are the rules that one look at the bytes decides. Assumes nothing.
use mathlib.Core.Path.{◌≡◌, refl, sym, ap, ◌∙◌}
use mathlib.Core.Bool.{Bool, true, false, not, cond}
use mathlib.Core.List.{[], ◌∷◌}
use Prim.Native.Nat.{ℕ}
use borrow.Author.Tests.{eqb-true}
use lib.Dec.{eqb}
use Rattle.meaning.specs.Bytes.{Text, bytes, ◌and◌, empty, same, begins, ends, holds}
use Rattle.meaning.specs.Names.{no_two_dots, rule_four_byte, no_controls, rule_five_byte, no_globs, slashes_pass, no_last_dot, no_at_brace, not_at, no_backslash, name_passes}
use Rattle.text.proofs.Rows.{and-true}
use Rattle.name.specs.Rules.{name_byte, rest_of_lock, after_dot, after_slash, after_at_sign, stands}
use Rattle.name.proofs.Tails.{tails, join, alike, every-tails, lacks-tails, holds-tails, ends-tails}
use Rattle.name.proofs.Parts.{part_rule, parts-tails}

-- the rules as the manual orders them, and with those of the text's beginning before those of every byte
regroup : (e h p d c g f z j l a n b : Bool)
    → (e and ((h and p) and (d and (c and (g and ((f and (z and j)) and (l and (a and (n and b)))))))))
    ≡ (((e and (f and h)) and n) and (p and (d and (c and (g and (z and (j and (l and (a and b)))))))))
regroup false h p d c g f z j l a n b = refl
regroup true false p d c g false z j l a n b = refl
regroup true false p d c g true z j l a n b = refl
regroup true true false d c g false z j l a n b = refl
regroup true true false d c g true z j l a false b = refl
regroup true true false d c g true z j l a true b = refl
regroup true true true false c g false z j l a n b = refl
regroup true true true true false g false z j l a n b = refl
regroup true true true true true false false z j l a n b = refl
regroup true true true true true true false z j l a n b = refl
regroup true true true false c g true z j l a false b = refl
regroup true true true true false g true z j l a false b = refl
regroup true true true true true false true z j l a false b = refl
regroup true true true true true true true false j l a false b = refl
regroup true true true true true true true true false l a false b = refl
regroup true true true true true true true true true false a false b = refl
regroup true true true true true true true true true true false false b = refl
regroup true true true true true true true true true true true false b = refl
regroup true true true false c g true z j l a true b = refl
regroup true true true true false g true z j l a true b = refl
regroup true true true true true false true z j l a true b = refl
regroup true true true true true true true false j l a true b = refl
regroup true true true true true true true true j l a true b = refl

-- the rules of every byte, in the manual's order
abbrev rules : ℕ → Text → Bool
rules x s =
    part_rule x s and (not (begins (bytes "..") (x ∷ s)) and (rule_four_byte x and (rule_five_byte x and (not (same (bytes "/") (x ∷ s)) and (not (begins (bytes "//") (x ∷ s)) and (not (same (bytes ".") (x ∷ s)) and (not (begins (bytes "@{") (x ∷ s)) and not (eqb 92 x))))))))

same_none : (s : Text) → same [] s ≡ empty s
same_none [] = refl
same_none (x ∷ s) = refl

dot-row : (k d e : Bool) → (not k and (not d and (not e and true))) ≡ (not e and (not d and not k))
dot-row true true true = refl
dot-row true true false = refl
dot-row true false true = refl
dot-row true false false = refl
dot-row false true true = refl
dot-row false true false = refl
dot-row false false true = refl
dot-row false false false = refl

slash-row : (d e f : Bool) → ((not d and true) and (not e and (not f and true))) ≡ (not e and (not f and not d))
slash-row true true f = refl
slash-row true false true = refl
slash-row true false false = refl
slash-row false true f = refl
slash-row false false true = refl
slash-row false false false = refl

-- they decide at a dot, a slash, an `@` and any other byte as one look does
module _ (s : Text) where
  rules-dot : rules 46 s ≡ after_dot s
  unfolding after_dot rule_four_byte rule_five_byte
  rules-dot = rw (same_none s) (dot-row (rest_of_lock s) (begins (bytes ".") s) (empty s))

  rules-slash : rules 47 s ≡ after_slash s
  unfolding after_slash rule_four_byte rule_five_byte
  rules-slash = rw (same_none s) (slash-row (begins (bytes ".") s) (empty s) (begins (bytes "/") s))

  rules-at : rules 64 s ≡ after_at_sign s
  unfolding after_at_sign rule_four_byte rule_five_byte
  rules-at = and-true (not (begins (bytes "{") s))

  rules-stand : (x : ℕ) → rules x s ≡ stands x s
  unfolding stands name_byte
  rules-stand x = go (eqb 46 x) (eqb 47 x) (eqb 64 x) refl refl refl
    where
      go : (a b c : Bool) → eqb 46 x ≡ a → eqb 47 x ≡ b → eqb 64 x ≡ c → rules x s ≡ cond a (after_dot s) (cond b (after_slash s) (cond c (after_at_sign s) (name_byte x)))
      go true b c d e f = ap (λ (k : ℕ). rules k s) (sym (eqb-true 46 x d)) ∙ rules-dot
      go false true c d e f = ap (λ (k : ℕ). rules k s) (sym (eqb-true 47 x e)) ∙ rules-slash
      go false false true d e f = ap (λ (k : ℕ). rules k s) (sym (eqb-true 64 x f)) ∙ rules-at
      go false false false d e f = rw (d, e, f)

rules-tails : (s : Text) → (tails part_rule s and (no_two_dots s and (no_controls s and (no_globs s and (not (ends (bytes "/") s) and (not (holds (bytes "//") s) and (no_last_dot s and (no_at_brace s and no_backslash s)))))))) ≡ tails rules s
unfolding no_two_dots no_controls no_globs no_last_dot no_at_brace no_backslash
rules-tails s =
    join _ _ _ _ s refl
    (join _ _ _ _ s (holds-tails 46 (46 ∷ []) s)
    (join _ _ _ _ s (every-tails rule_four_byte s)
    (join _ _ _ _ s (every-tails rule_five_byte s)
    (join _ _ _ _ s (ends-tails 47 [] s)
    (join _ _ _ _ s (holds-tails 47 (47 ∷ []) s)
    (join _ _ _ _ s (ends-tails 46 [] s)
    (join _ _ _ _ s (holds-tails 64 (123 ∷ []) s) (lacks-tails 92 s))))))))

-- a name passes if it opens well and all its bytes stand
pub name-row : (s : Text) → name_passes s ≡ ((after_slash s and not_at s) and tails stands s)
unfolding name_passes slashes_pass after_slash
name-row s =
    rw (parts-tails s)
    (regroup (not (empty s)) (not (begins (bytes ".") s)) (tails part_rule s) (no_two_dots s) (no_controls s) (no_globs s) (not (begins (bytes "/") s)) (not (ends (bytes "/") s)) (not (holds (bytes "//") s)) (no_last_dot s) (no_at_brace s) (not_at s) (no_backslash s)
    ∙ ap (λ (b : Bool). ((not (empty s) and (not (begins (bytes "/") s) and not (begins (bytes ".") s))) and not_at s) and b) (rules-tails s ∙ alike rules stands (λ x t. rules-stand t x) s))
