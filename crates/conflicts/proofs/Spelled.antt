-- How many rows a row list has room for: each takes `row_least` bytes at least. Assumes nothing.
use mathlib.Core.Path.{◌≡◌, refl, ap, ◌∙◌}
use mathlib.Core.Bool.{true}
use mathlib.Core.List.{List, [], ◌∷◌, ◌++◌}
use mathlib.Core.Option.{Option, none, some}
use Prim.Native.Nat.{ℕ, suc, ◌*◌, ◌≤◌, ◌<◌}
use native.Mathlib.Omega.{arith}
use borrow.Author.Tests.{lt-ltb}
use mir.Val.{Fits}
use mir.Syntax.{w8}
use lib.ListN.{length, get_or, length-append}
use Rattle.meaning.specs.Bytes.{Text, every, each}
use Rattle.meaning.specs.Number.{number_bytes, text_bytes}
use Rattle.meaning.specs.Rows.{Row, destination_bytes, row_bytes, row_list_of}
use Rattle.promises.specs.Facts.{is_byte}
use Rattle.promises.proofs.Laws.{and_both}
use Rattle.promises.proofs.Reading.{number-long}
use Rattle.promises.proofs.Spelling.{one-spelling}
use Rattle.number.specs.Reading.{Octets}
use Rattle.number.proofs.Round.{octets-of}
use Rattle.row_list.specs.Lists.{rows_in, RowsRead}
use Rattle.conflicts.specs.Rooms.{row_least, many_rows}
use Rattle.conflicts.proofs.Walks.{list-short}

destination-long : (o : Option Text) → 0 < length (destination_bytes o)
destination-long none = number-long 0
destination-long (some t) = omega (arith, number-long (suc (length t)), length-append (number_bytes (suc (length t))) t)

row-long : (r : Row) → row_least ≤ length (row_bytes r)
unfolding row_bytes text_bytes
row-long r =
    let d = destination_bytes r.destination in
    let t = number_bytes (length r.source) ++ r.source in
    omega (
      arith,
      number-long r.item,
      number-long r.spec,
      number-long r.kind,
      number-long (length r.source),
      destination-long r.destination,
      length-append (number_bytes r.item) (number_bytes r.spec ++ (number_bytes r.kind ++ (t ++ d))),
      length-append (number_bytes r.spec) (number_bytes r.kind ++ (t ++ d)),
      length-append (number_bytes r.kind) (t ++ d),
      length-append t d,
      length-append (number_bytes (length r.source)) r.source,
    )

-- the bytes of a slice are bytes
pub all-bytes : (s : Text) → Octets s → every is_byte s ≡ true
all-bytes [] o = refl
all-bytes (x ∷ s) o = and_both (lt-ltb x 256 (o 0)) (all-bytes s (λ i. o (suc i)))

-- a list that was read is the bytes of its rows
pub spelled : (specs : ℕ) (s : Text) → RowsRead specs s → ((i : ℕ) → Fits w8 (get_or s i 0)) → s ≡ row_list_of (rows_in specs s)
spelled specs s r o = one-spelling.1 specs s r.list (all-bytes s (octets-of s o)) r.reads ∙ ap row_list_of (rw r.reads)

rows_long : (l : List Row) → row_least * length l ≤ length (row_list_of l)
unfolding row_list_of
rows_long [] = omega arith
rows_long (r ∷ l) = omega (arith, row-long r, rows_long l, length-append (row_bytes r) (each l row_bytes))

-- how many rows a list has at most
most-rows : (specs : ℕ) (s : Text) → RowsRead specs s → ((i : ℕ) → Fits w8 (get_or s i 0)) → length (rows_in specs s) ≤ many_rows
most-rows specs s r o = omega (arith, list-short specs s r, ap length (spelled specs s r o), rows_long (rows_in specs s))

-- room for the rows of any list
pub many-room : (specs : ℕ) (s : Text) → RowsRead specs s → ((i : ℕ) → Fits w8 (get_or s i 0)) → length (rows_in specs s) ≤ many_rows
many-room specs s r o = omega (arith, most-rows specs s r o)
