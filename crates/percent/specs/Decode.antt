-- How a text in print is read, step by step.
use Rattle.std.specs.Prelude.{ℕ, ◌<◌, ◌≤◌, ◌≡◌, Bool, true, false, cond, ltb, length, drop, Option, Some, None, Result, Ok, Err}
use Rattle.meaning.specs.Bytes.{Text, ◌and◌}
use Rattle.buffer.specs.Splice.{splice}
use Rattle.print.specs.Unshown.{Unshown, stands, fault, before, text_of, digit_value, escaped, unshown_bytes}
use Rattle.percent.specs.declared.Fault.{Fault}
use Rattle.percent.specs.declared.Shown.{Shown}

-- the number that a capital hexadecimal digit stands for, if a byte is one
unfoldable pub digit_of : ℕ → Option ℕ
digit_of b = cond (ltb (digit_value b) 16) (Some (digit_value b)) None

-- the byte that two digits stand for, if both are digits
unfoldable pub byte_of : ℕ → ℕ → Option ℕ
byte_of h l = cond (ltb (digit_value h) 16 and ltb (digit_value l) 16) (Some (escaped h l)) None

-- how many bytes a text in print stands for, or how many bytes come before its first fault
abbrev pub measured : Unshown → Result ℕ Fault
measured (stands t) = Ok (length t)
measured (fault k) = Err (record { at = k })

-- there is no fault
abbrev pub is_text : Unshown → Bool
is_text (stands t) = true
is_text (fault k) = false

-- some bytes of s show a byte, before what the bytes after them stand for
pub record StepsOver (s : Text) (b : Shown) : Type 0 where
  pub some : 0 < b.width
  pub within : b.width ≤ length s
  pub makes : unshown_bytes s ≡ before b.byte b.width (unshown_bytes (drop b.width s))

-- one step of reading; where no bytes show one, there is a fault
abbrev pub Steps : Text → Option Shown → Type 0
Steps s (Some b) = StepsOver s b
Steps s None = unshown_bytes s ≡ fault 0

-- the number says what was read, and the buffer holds the text at its start; where there is a fault nothing is written
pub record Decodes (u : Unshown) (entry exit : Text) (r : Result ℕ Fault) : Type 0 where
  pub tells : r ≡ measured u
  pub puts : exit ≡ splice entry 0 (text_of u)
