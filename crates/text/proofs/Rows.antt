-- A row of rules, joined by `and`, against code that asks them one after the other and returns at the first that fails. Assumes nothing.
use mathlib.Core.Path.{◌≡◌, refl, sym, ◌∙◌}
use mathlib.Core.Bool.{Bool, true, false, not}
use Prim.Native.Nat.{ℕ}
use borrow.Author.Tests.{eq-eqb, ne_eqb, not-true, not-false}
use lib.Dec.{eqb}
use Rattle.meaning.specs.Bytes.{◌and◌}

pub and-true : (b : Bool) → (b and true) ≡ b
and-true true = refl
and-true false = refl

pub and-false : (b : Bool) → (b and false) ≡ false
and-false true = refl
and-false false = refl

module _ (r a b : Bool) (e : r ≡ a) where
  -- the rule `a` fails
  pub fail : r ≡ false → false ≡ (a and b)
  fail f = rw (sym e ∙ f)

  -- the rule `a` passes, and the rest decides
  pub pass : (x : Bool) → r ≡ true → x ≡ b → x ≡ (a and b)
  pass x t h = rw (sym e ∙ t) h

  -- the same where the code tests `!r`
  pub fail-if-not : not r ≡ true → false ≡ (a and b)
  fail-if-not t = fail (not-true r t)

  pub pass-if-not : (x : Bool) → not r ≡ false → x ≡ b → x ≡ (a and b)
  pass-if-not x f h = pass x (not-false r f) h

  -- the rule `not a` fails, and passes
  pub fail-not : r ≡ true → false ≡ (not a and b)
  fail-not t = rw (sym e ∙ t)

  pub pass-not : (x : Bool) → r ≡ false → x ≡ b → x ≡ (not a and b)
  pass-not x f h = rw (sym e ∙ f) h

-- the last rule is returned as it stands
pub last-not : (r a : Bool) → r ≡ a → not r ≡ not a
last-not r a e = rw e

-- two numbers are to be one
pub fail-equal : (m n : ℕ) (b : Bool) → (m ≡ n → ⊥) → false ≡ (eqb m n and b)
fail-equal m n b d = rw (ne_eqb m n d)

pub pass-equal : (m n : ℕ) (b x : Bool) → m ≡ n → x ≡ b → x ≡ (eqb m n and b)
pass-equal m n b x e h = rw (eq-eqb m n e) h

pub ruleset row = (fail, pass, fail-if-not, pass-if-not, fail-not, pass-not, last-not, fail-equal, pass-equal)
