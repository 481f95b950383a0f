-- A side of a spec as three numbers: which it is, where it begins, and how many bytes it has there.
use Rattle.std.specs.Prelude.{ℕ, zero, suc}
use Rattle.parse.specs.declared.types.Side.{Side}
use Rattle.parse.specs.declared.types.Side.TheVariants.{Absent, Part, Head}

-- the side that three numbers tell
abbrev pub side_from : ℕ → ℕ → ℕ → Side
side_from zero at n = Absent
side_from (suc zero) at n = Part at n
side_from (suc (suc more)) at n = Head

-- which side it is
abbrev pub side_kind : Side → ℕ
side_kind Absent = 0
side_kind (Part at n) = 1
side_kind Head = 2

-- where it begins
abbrev pub side_at : Side → ℕ
side_at Absent = 0
side_at (Part at n) = at
side_at Head = 0

-- how many bytes it has there
abbrev pub side_len : Side → ℕ
side_len Absent = 0
side_len (Part at n) = n
side_len Head = 0
