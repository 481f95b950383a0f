-- What is said of a refused line, piece by piece. Assumes nothing.
use mathlib.Core.Path.{◌≡◌, sym}
use mathlib.Core.Bool.{Bool, true, false, cond}
use mathlib.Core.List.{[], ◌∷◌, ◌++◌}
use Prim.Native.Nat.{ℕ, zero, suc, ◌+◌, ◌/◌, ◌%◌, ◌≤◌}
use native.Mathlib.Omega.{arith}
use Rattle.std.specs.Prelude.{Option, Some, None}
use Rattle.std.proofs.Common.{add-one}
use lib.Dec.{eqb, leb}
use lib.ListN.{length, get_or, length-append}
use Rattle.meaning.specs.Bytes.{Text, bytes, ◌and◌}
use Rattle.meaning.specs.Deliveries.{digits, capital_digit}
use Rattle.buffer.specs.Splice.{splice}
use Rattle.buffer.proofs.Splices.{splice-none}
use Rattle.buffer.proofs.Threes.{three-first, three-second, three_third, three-put, three-end}
use Rattle.print.proofs.Decimals.{digits-few}
use Rattle.refusal_words.specs.Words.{reason_words}
use Rattle.refusal_words.proofs.Phrases.{reason-short}
use Rattle.refused_line.specs.Byte.{counted, line_byte}
use Rattle.refused_line.specs.Message.{most_digits, numeral, hexadecimal, byte_itself, byte_words, byte_told, line_told, refused_line, message_most}

-- a number
pub numeral-room : (d : Text) (at n : ℕ) → at + length (numeral n) ≤ length d → at + length (digits 20 n) ≤ length d
unfolding numeral
numeral-room d at n h = h

pub numeral-put : (d : Text) (at n : ℕ) (o : Text) → o ≡ splice d at (digits 20 n) → o ≡ splice d at (numeral n)
unfolding numeral
numeral-put d at n o e = e

pub numeral-end : (at n r : ℕ) → r ≡ at + length (digits 20 n) → r ≡ at + length (numeral n)
unfolding numeral
numeral-end at n r e = e

numeral-few : (n : ℕ) → length (numeral n) ≤ most_digits
unfolding numeral
numeral-few n = digits-few most_digits n

-- the longest has 17 bytes
words-few : (b : ℕ) → length (byte_words b) ≤ 17
unfolding byte_words byte_itself hexadecimal
words-few b = go (eqb b 9) (eqb b 13) (eqb b 32) (leb 33 b and leb b 126)
  where
    go : (p q r s : Bool) → length (cond p (bytes "a tab") (cond q (bytes "a carriage return") (cond r (bytes "a space") (cond s (96 ∷ b ∷ 96 ∷ []) (48 ∷ 120 ∷ capital_digit (b / 16) ∷ capital_digit (b % 16) ∷ []))))) ≤ 17
    go true q r s = omega arith
    go false true r s = omega arith
    go false false true s = omega arith
    go false false false true = omega arith
    go false false false false = omega arith

-- which byte it is about
module _ (l d : Text) (at : ℕ) (o : Option ℕ) where
  pub told-none : o ≡ None → (d ≡ splice d at (byte_told l (counted o))) × (at ≡ at + length (byte_told l (counted o)))
  told-none e = rw e (sym (splice-none d at), omega arith)

  module _ (k : ℕ) (e : o ≡ Some k) where
    abbrev tail : Text
    tail = bytes " is " ++ byte_words (get_or l k 0)

    told-some : byte_told l (counted o) ≡ bytes ": byte " ++ (numeral (k + 1) ++ tail)
    told-some = rw (e, add-one)

    module _ (fits : at + length (byte_told l (counted o)) ≤ length d) where
      pieces : at + length (bytes ": byte " ++ (numeral (k + 1) ++ tail)) ≤ length d
      pieces = rw told-some at fits

      module _ (p : Text) (i : ℕ) (ep : p ≡ splice d at (bytes ": byte ")) (ei : i ≡ at + length (bytes ": byte ")) where
        module _ (q : Text) (j : ℕ) (eq : q ≡ splice p i (numeral (k + 1))) (ej : j ≡ i + length (numeral (k + 1))) where
          pub told-put : (r : Text) → r ≡ splice q j tail → r ≡ splice d at (byte_told l (counted o))
          told-put r f = rw told-some (three-put d at (bytes ": byte ") (numeral (k + 1)) tail pieces p i ep ei q j eq ej r f)

          pub told-end : (n : ℕ) → n ≡ j + length tail → n ≡ at + length (byte_told l (counted o))
          told-end n f = rw told-some (three-end d at (bytes ": byte ") (numeral (k + 1)) tail pieces p i ep ei q j eq ej n f)

-- the number of the line
module _ (d : Text) (at k : ℕ) (fits : at + length (line_told k) ≤ length d) where
  parts : at + length (bytes "line " ++ (numeral k ++ bytes ": ")) ≤ length d
  unfolding line_told
  parts = fits

  pub line_first : at + length (bytes "line ") ≤ length d
  line_first = three-first d at (bytes "line ") (numeral k) (bytes ": ") parts

  module _ (o : Text) (i : ℕ) (eo : o ≡ splice d at (bytes "line ")) (ei : i ≡ at + length (bytes "line ")) where
    pub line_second : i + length (numeral k) ≤ length o
    line_second = three-second d at (bytes "line ") (numeral k) (bytes ": ") parts o i eo ei

    module _ (p : Text) (j : ℕ) (ep : p ≡ splice o i (numeral k)) (ej : j ≡ i + length (numeral k)) where
      pub line-third : j + length (bytes ": ") ≤ length p
      line-third = three_third d at (bytes "line ") (numeral k) (bytes ": ") parts o i eo ei p j ep ej

      pub line-put : (q : Text) → q ≡ splice p j (bytes ": ") → q ≡ splice d at (line_told k)
      unfolding line_told
      line-put q e = three-put d at (bytes "line ") (numeral k) (bytes ": ") parts o i eo ei p j ep ej q e

      pub line-end : (r : ℕ) → r ≡ j + length (bytes ": ") → r ≡ at + length (line_told k)
      unfolding line_told
      line-end r e = three-end d at (bytes "line ") (numeral k) (bytes ": ") parts o i eo ei p j ep ej r e

-- the whole has room
told-few : (l : Text) (n : ℕ) → length (byte_told l n) ≤ 7 + most_digits + 4 + 17
told-few l zero = omega arith
told-few l (suc n) = omega (arith, length-append (bytes ": byte ") (numeral (suc n) ++ (bytes " is " ++ byte_words (get_or l n 0))), length-append (numeral (suc n)) (bytes " is " ++ byte_words (get_or l n 0)), length-append (bytes " is ") (byte_words (get_or l n 0)), numeral-few (suc n), words-few (get_or l n 0))

line-few : (k : ℕ) → length (line_told k) ≤ 5 + most_digits + 2
unfolding line_told
line-few k = omega (arith, length-append (bytes "line ") (numeral k ++ bytes ": "), length-append (numeral k) (bytes ": "), numeral-few k)

module _ (k n : ℕ) (l : Text) where
  abbrev last : Text
  last = byte_told l (line_byte n l) ++ (10 ∷ [])

  pub refused-few : length (refused_line k n l) ≤ message_most
  unfolding refused_line
  refused-few = omega (arith, length-append (line_told k) (reason_words n ++ last), length-append (reason_words n) last, length-append (byte_told l (line_byte n l)) (10 ∷ []), line-few k, reason-short n, told-few l (line_byte n l))

  module _ (d : Text) (long : message_most ≤ length d) where
    whole : 0 + length (line_told k ++ (reason_words n ++ last)) ≤ length d
    unfolding refused_line
    whole = omega (arith, refused-few)

    pub refused-first : 0 + length (line_told k) ≤ length d
    refused-first = three-first d 0 (line_told k) (reason_words n) last whole

    module _ (o : Text) (i : ℕ) (eo : o ≡ splice d 0 (line_told k)) (ei : i ≡ 0 + length (line_told k)) where
      pub refused-second : i + length (reason_words n) ≤ length o
      refused-second = three-second d 0 (line_told k) (reason_words n) last whole o i eo ei

      module _ (p : Text) (j : ℕ) (ep : p ≡ splice o i (reason_words n)) (ej : j ≡ i + length (reason_words n)) (b : ℕ) (eb : b ≡ line_byte n l) where
        pub refused-third : j + length (byte_told l b ++ (10 ∷ [])) ≤ length p
        refused-third = rw eb (three_third d 0 (line_told k) (reason_words n) last whole o i eo ei p j ep ej)

        pub refused-put : (q : Text) → q ≡ splice p j (byte_told l b ++ (10 ∷ [])) → q ≡ splice d 0 (refused_line k n l)
        unfolding refused_line
        refused-put q e = three-put d 0 (line_told k) (reason_words n) last whole o i eo ei p j ep ej q (rw eb at e)

        refused-sum : (r : ℕ) → r ≡ j + length (byte_told l b ++ (10 ∷ [])) → r ≡ 0 + length (refused_line k n l)
        unfolding refused_line
        refused-sum r e = three-end d 0 (line_told k) (reason_words n) last whole o i eo ei p j ep ej r (rw eb at e)

        pub refused_end : (r : ℕ) → r ≡ j + length (byte_told l b ++ (10 ∷ [])) → r ≡ length (refused_line k n l)
        refused_end r e = omega (arith, refused-sum r e)

        pub refused-short : (r : ℕ) → r ≡ j + length (byte_told l b ++ (10 ∷ [])) → r ≤ message_most
        refused-short r e = omega (arith, refused_end r e, refused-few)
