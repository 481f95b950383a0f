-- What the report on two specs answers, in each of its four cases.
use Rattle.std.specs.Prelude.{ℕ}
use Rattle.collide.specs.declared.answer.Collision.{Collision}

-- a refusal's number and which spec it is of
abbrev pub refused_with : ℕ → ℕ → Collision
refused_with n k = record { refusal = n; which = k; collides = 0; length = 0 }

-- no collision
abbrev pub never : Collision
never = record { refusal = 0; which = 0; collides = 0; length = 0 }

-- 17, and how many bytes the buffer is to have
abbrev pub short_with : ℕ → Collision
short_with size = record { refusal = 17; which = 0; collides = 0; length = size }

-- a collision, and how many bytes were written
abbrev pub written_with : ℕ → Collision
written_with size = record { refusal = 0; which = 0; collides = 1; length = size }
