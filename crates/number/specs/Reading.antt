-- What the functions answer: a number that stands at a place of a byte string.
use Rattle.std.specs.Prelude.{ℕ, ◌-◌, ◌<◌, Option, Some, None, length, get_or, drop}
use Rattle.meaning.specs.Bytes.{Text}
use Rattle.meaning.specs.Limits.{number_groups}
use Rattle.meaning.specs.Number.{Step, took, no, Reader, ◌>>=◌, group_before, read_groups, read_number}
use Rattle.number.specs.declared.Number.{Number}

-- every byte is below 256, as in every slice of bytes
abbrev pub Octets : Text → Type 0
Octets s = (i : ℕ) → get_or s i 0 < 256

-- a number with the place of what follows it
abbrev pub number_is : ℕ → ℕ → Option Number
number_is n rest = Some (record { value = n; next = rest })

-- a step's answer as a place of s: a value with the place of what is left
abbrev pub number_placed : Text → Step ℕ → Option Number
number_placed s (took n rest) = number_is n (length s - length rest)
number_placed s (no k) = None

-- what a reader finds at a place of s
abbrev pub found_at : Reader ℕ → Text → ℕ → Option Number
found_at r s at = number_placed s (r (drop at s))

-- the number at a place of s
unfoldable pub number_at : Text → ℕ → Option Number
number_at s at = found_at read_number s at

-- a number read on after its first group a
abbrev pub after_one : ℕ → Reader ℕ
after_one a = read_groups (number_groups - 1) >>= group_before a

-- a number read on after its first groups a and b
abbrev pub after_two : ℕ → ℕ → Reader ℕ
after_two a b = read_groups (number_groups - 2) >>= group_before b >>= group_before a
