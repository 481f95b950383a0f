-- Several bytes as one number.
use Rattle.std.specs.Prelude.{ℕ, zero, suc, ◌+◌, ◌*◌, [], ◌∷◌}
use Rattle.meaning.specs.Bytes.{Text}

-- the number that p and then the first k bytes of a text make, the first the highest
abbrev pub number : ℕ → ℕ → Text → ℕ
number p zero s = p
number p (suc k) [] = p
number p (suc k) (x ∷ s) = number (p * 256 + x) k s
