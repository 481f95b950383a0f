-- What is printed on a program's output.
use Rattle.std.specs.Prelude.{ℕ, Bool, not, ◌++◌}
use Rattle.meaning.specs.Bytes.{Text, bytes, each}
use Rattle.meaning.specs.Deliveries.{shown_byte}
use Rattle.print.specs.Lines.{printable}
use Rattle.refused_line.specs.Message.{numeral}

-- a text as it is printed: each byte as it is, or as `%` and two digits
abbrev pub in_print : Text → Text
in_print t = each t shown_byte

-- a byte that is printed as `%` and two digits
abbrev pub needs_code : ℕ → Bool
needs_code b = not (printable b)

-- a line by its number
abbrev pub line_named : ℕ → Text
line_named n = bytes "line " ++ numeral n
