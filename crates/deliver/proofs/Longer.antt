-- Rows in print are no shorter than their row list. Assumes nothing.
use mathlib.Core.Path.{◌≡◌}
use mathlib.Core.Bool.{Bool, true, false, not, cond}
use mathlib.Core.List.{List, [], ◌∷◌, ◌++◌}
use mathlib.Core.Option.{Option, none, some}
use Prim.Native.Nat.{ℕ, zero, suc, ◌+◌, ◌-◌, ◌/◌, ◌%◌, ◌≤◌}
use native.Mathlib.Omega.{arith}
use lib.Dec.{eqb, leb, ltb}
use lib.ListN.{length, length-append}
use Rattle.meaning.specs.Bytes.{Text, ◌and◌, each, In, here, there}
use Rattle.meaning.specs.Limits.{number_groups, decimal_digits}
use Rattle.meaning.specs.Number.{number_bytes, text_bytes}
use Rattle.meaning.specs.Rows.{Row, destination_bytes, row_bytes, row_list_of}
use Rattle.meaning.specs.Deliveries.{digits, decimal, capital_digit, shown_byte, shown, shown_option, shown_item, shown_kind, row_line}
use Rattle.number.proofs.Bytes.{size-one, bytes-few}
use Rattle.deliver.specs.Printed.{row_lines}

-- every field has a byte at least
decimal-long : (n : ℕ) → 1 ≤ length (decimal n)
unfolding decimal
decimal-long n = go (ltb n 10)
  where
    go : (b : Bool) → 1 ≤ length (cond {A = Text} b ((48 + n) ∷ []) (digits (decimal_digits - 1) (n / 10) ++ ((48 + n % 10) ∷ [])))
    go true = omega arith
    go false = omega (arith, length-append (digits (decimal_digits - 1) (n / 10)) ((48 + n % 10) ∷ []))

item-long : (n : ℕ) → 1 ≤ length (shown_item n)
item-long zero = omega arith
item-long (suc n) = decimal-long n

kind-long : (n : ℕ) → 4 ≤ length (shown_kind n)
kind-long zero = omega arith
kind-long (suc n) = omega arith

byte-long : (b : ℕ) → 1 ≤ length (shown_byte b)
unfolding shown_byte
byte-long b = go (leb 33 b and leb b 126 and not (eqb b 37))
  where
    go : (z : Bool) → 1 ≤ length (cond {A = Text} z (b ∷ []) (37 ∷ capital_digit (b / 16) ∷ capital_digit (b % 16) ∷ []))
    go true = omega arith
    go false = omega arith

bytes-long : (t : Text) → length t ≤ length (each t shown_byte)
bytes-long [] = omega arith
bytes-long (b ∷ t) = omega (arith, bytes-long t, byte-long b, length-append (shown_byte b) (each t shown_byte))

-- a text has its bytes and one more
shown-long : (t : Text) → length t + 1 ≤ length (shown t)
unfolding shown
shown-long t = omega (arith, bytes-long t)

-- a destination in print lacks at most the number before it, of which `=` or `-` stands for one byte
destination-long : (o : Option Text) → length (destination_bytes o) + 1 ≤ length (shown_option o) + number_groups
destination-long none = omega (arith, bytes-few 0)
destination-long (some t) = omega (arith, bytes-few (suc (length t)), length-append (number_bytes (suc (length t))) t, shown-long t)

line-length : (r : Row) → length (row_line r) ≡ length (shown_item r.item) + length (decimal r.spec) + length (shown_kind r.kind) + length (shown r.source) + length (shown_option r.destination) + 5
unfolding row_line
line-length r = simp length-append (omega arith)

bytes-length : (r : Row) → length (row_bytes r) ≡ length (number_bytes r.item) + length (number_bytes r.spec) + length (number_bytes r.kind) + (length (number_bytes (length r.source)) + length r.source) + length (destination_bytes r.destination)
unfolding row_bytes text_bytes
bytes-length r = simp length-append (omega arith)

-- a row
row-long : (r : Row) → r.kind ≤ 1 → length (row_bytes r) ≤ length (row_line r)
row-long r k =
    omega (arith, line-length r, bytes-length r, item-long r.item, decimal-long r.spec, kind-long r.kind, shown-long r.source, destination-long r.destination, bytes-few r.item, bytes-few r.spec, size-one r.kind (omega arith), bytes-few (length r.source))

-- and all of them
pub rows_long : (rows : List Row) → ((r : Row) → In r rows → r.kind ≤ 1) → length (row_list_of rows) ≤ length (row_lines rows)
unfolding row_list_of row_lines
rows_long [] h = omega arith
rows_long (r ∷ rows) h = omega (arith, row-long r (h r here), rows_long rows (λ q m. h q (there m)), length-append (row_bytes r) (each rows row_bytes), length-append (row_line r) (each rows row_line))
