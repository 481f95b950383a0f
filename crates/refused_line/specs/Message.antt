-- What is said of a refused line.
use Rattle.std.specs.Prelude.{ℕ, zero, suc, ◌+◌, ◌/◌, ◌%◌, cond, [], ◌∷◌, ◌++◌, eqb, leb, get_or}
use Rattle.meaning.specs.Bytes.{Text, bytes, byte, tab, line_feed, ◌and◌}
use Rattle.meaning.specs.Deliveries.{digits, capital_digit}
use Rattle.text_lists.specs.Line.{carriage_return}
use Rattle.refusal_words.specs.Words.{reason_words}
use Rattle.refused_line.specs.Byte.{line_byte}

-- the most digits of a machine's number
abbrev pub most_digits : ℕ
most_digits = 20

-- a number in decimal
unfoldable pub numeral : ℕ → Text
numeral n = digits most_digits n

-- `0x` and two capital hexadecimal digits
unfoldable pub hexadecimal : ℕ → Text
hexadecimal b = byte "0" ∷ byte "x" ∷ capital_digit (b / 16) ∷ capital_digit (b % 16) ∷ []

-- a byte that can be seen as it is, any other as a number
unfoldable pub byte_itself : ℕ → Text
byte_itself b = cond (leb 33 b and leb b 126) (byte "`" ∷ b ∷ byte "`" ∷ []) (hexadecimal b)

-- a byte in words: a blank by its name, any other as itself
unfoldable pub byte_words : ℕ → Text
byte_words b =
    cond (eqb b tab) (bytes "a tab")
    (cond (eqb b carriage_return) (bytes "a carriage return")
    (cond (eqb b (byte " ")) (bytes "a space") (byte_itself b)))

-- which byte it is about, if about one
abbrev pub byte_told : Text → ℕ → Text
byte_told l zero = []
byte_told l (suc i) = bytes ": byte " ++ (numeral (suc i) ++ (bytes " is " ++ byte_words (get_or l i 0)))

-- the number of the line
unfoldable pub line_told : ℕ → Text
line_told k = bytes "line " ++ (numeral k ++ bytes ": ")

-- what is said of line number k that is refused for a reason
unfoldable pub refused_line : ℕ → ℕ → Text → Text
refused_line k n l = line_told k ++ (reason_words n ++ (byte_told l (line_byte n l) ++ (line_feed ∷ [])))

-- the most bytes of it: two numbers, the longest phrase and the longest name of a byte, with what stands between them
abbrev pub message_most : ℕ
message_most = (5 + most_digits + 2) + 60 + (7 + most_digits + 4 + 17) + 1
