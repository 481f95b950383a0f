-- Which byte of a text is the first that is looked for. Assumes nothing.
use mathlib.Core.Path.{◌≡◌, refl, sym, ap, ◌∙◌}
use mathlib.Core.Bool.{Bool, true, false, cond}
use mathlib.Core.List.{[], ◌∷◌}
use Prim.Native.Nat.{ℕ, zero, suc, ◌+◌}
use native.Mathlib.Omega.{arith}
use Rattle.std.specs.Prelude.{Some, position}
use Rattle.std.specs.List.{position_from}
use Rattle.std.proofs.lemmas.Iterator.Adapters.{position_from-zero}
use Rattle.meaning.specs.Bytes.{Text}
use Rattle.refused_line.specs.Byte.{past, counted, first_of}

-- a number that counts from a place on
past-start : (n : ℕ) → past 0 n ≡ n
past-start zero = refl
past-start (suc n) = omega arith

past-past : (k n : ℕ) → past k (past 1 n) ≡ past (k + 1) n
past-past k zero = refl
past-past k (suc n) = let e : 1 + suc n ≡ suc (suc n) = omega arith in ap (past k) e ∙ omega arith

-- the first byte that passes a test, as the code answers it
counted-from : (test : ℕ → Bool) (s : Text) (i : ℕ) → counted (position_from test i s) ≡ past i (first_of test s)
counted-from test [] i = refl
counted-from test (x ∷ s) i = go (test x) (counted-from test s (i + 1))
  where
    go : (b : Bool) → counted (position_from test (i + 1) s) ≡ past (i + 1) (first_of test s) → counted (cond b (Some i) (position_from test (i + 1) s)) ≡ past i (cond b 1 (past 1 (first_of test s)))
    go true h = omega arith
    go false h = h ∙ sym (past-past i (first_of test s))

pub counted-position : (test : ℕ → Bool) (s : Text) → counted (position test s) ≡ first_of test s
counted-position test s = ap counted (position_from-zero test s) ∙ counted-from test s 0 ∙ past-start (first_of test s)
