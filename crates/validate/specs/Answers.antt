-- The numbers that a call answers where it writes nothing.
use Rattle.std.specs.Prelude.{ℕ}
use Rattle.refusal.specs.Numbers.{number_of}
use Rattle.list.specs.declared.refused.Refused.{Refused}
use Rattle.validate.specs.declared.Validation.{Validation}

-- nothing
abbrev pub nothing_told : Validation
nothing_told = record { refusal = 0; «record» = 0; conflicts = 0; length = 0; fixes_length = 0; buffer = 0 }

-- a refusal, with the record that it carries
abbrev pub validation_refused : Refused → Validation
validation_refused e = record { refusal = number_of e.refusal; «record» = e.«record»; conflicts = 0; length = 0; fixes_length = 0; buffer = 0 }

-- a buffer that is too short, and what it needs
abbrev pub short_of : ℕ → ℕ → Validation
short_of i needed = record { refusal = 17; «record» = 0; conflicts = 0; length = needed; fixes_length = 0; buffer = i }
