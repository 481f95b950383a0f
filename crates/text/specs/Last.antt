-- Where the last of a byte stands in a text.
use Rattle.std.specs.Prelude.{Bool, false, cond, [], ◌∷◌, ℕ, zero, suc, ◌≤◌, ◌<◌, ◌≡◌, ◌==◌, eqb, ltb, length, slice_index}
use Rattle.meaning.specs.Bytes.{Text, count_if}

-- one byte more before a text whose last b was passed at n; 0 where it had none
abbrev pub past_next : Bool → ℕ → ℕ
past_next here zero = count_if here 0
past_next here (suc n) = suc (suc n)

-- how many bytes s has up to its last b and with it; 0 where no b stands in s
abbrev pub past_last : ℕ → Text → ℕ
past_last b [] = 0
past_last b (x ∷ s) = past_next (eqb b x) (past_last b s)

-- the later of two places
unfoldable pub later : ℕ → ℕ → ℕ
later x y = cond (ltb x y) y x

-- no byte of s from the place i on is b
abbrev pub NoneFrom : ℕ → Text → ℕ → Type 0
NoneFrom b s i = (k : ℕ) → i ≤ k → k < length s → (b == slice_index s k) ≡ false
