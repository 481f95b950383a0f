-- Where a byte stands in a text.
use Rattle.std.specs.Prelude.{cond, [], ◌∷◌, ℕ, suc, eqb}
use Rattle.meaning.specs.Bytes.{Text}

-- the place of the first b in s, or s's length where none is
abbrev pub first_at : ℕ → Text → ℕ
first_at b [] = 0
first_at b (x ∷ s) = cond (eqb b x) 0 (suc (first_at b s))
