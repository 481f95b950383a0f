-- What a call on one buffer answers, in each of its three cases.
use Rattle.std.specs.Prelude.{ℕ}
use Rattle.buffer.specs.declared.written.Written.{Written}

-- a refusal's number and its record's, and no bytes
abbrev pub refused_with : ℕ → ℕ → Written
refused_with n k = record { refusal = n; «record» = k; length = 0 }

-- 17, and how many bytes the buffer is to have
abbrev pub short_with : ℕ → Written
short_with size = record { refusal = 17; «record» = 0; length = size }

-- no refusal, and how many bytes were written
abbrev pub done_with : ℕ → Written
done_with size = record { refusal = 0; «record» = 0; length = size }
