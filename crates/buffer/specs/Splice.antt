-- A buffer after a text was written into it.
use Rattle.std.specs.Prelude.{◌≡◌, ◌++◌, ℕ, ◌+◌, ◌≤◌, length, take, drop}
use Rattle.meaning.specs.Bytes.{Text}

-- d with s in place of as many of its bytes, from the place `at` on
unfoldable pub splice : Text → ℕ → Text → Text
splice d at s = take at d ++ (s ++ drop (at + length s) d)

-- the buffer d has room for s from the place `at` on
abbrev pub RoomFor : Text → ℕ → Text → Type 0
RoomFor d at s = at + length s ≤ length d

-- what comes of putting s into the buffer d from the place `at` on: the buffer after it, and the place after s
abbrev pub Puts : Text → ℕ → Text → Text → ℕ → Type 0
Puts d at s after end = (after ≡ splice d at s) × (end ≡ at + length s)
