-- What the functions write: a field with the byte after it, and a row of plain numbers and texts.
use Rattle.std.specs.Prelude as prelude
use Rattle.std.specs.Prelude.{ℕ, ◌+◌, ◌*◌, ◌/◌, ◌%◌, Bool, not, [], ◌∷◌, ◌++◌, eqb, leb, length}
use Rattle.std.specs.Borrow.{Bor}
use Rattle.std.proofs.Math.Option.{Option, none, some}
use Rattle.meaning.specs.Bytes.{Text, percent, tab, line_feed, ◌and◌, or_empty}
use Rattle.meaning.specs.Limits.{program_bytes, decimal_digits}
use Rattle.meaning.specs.Rows.{Row}
use Rattle.meaning.specs.Deliveries.{decimal, capital_digit, shown_item, shown_kind}
use Rattle.print.specs.declared.line.Row as line

-- a byte that is printed as it is
abbrev pub printable : ℕ → Bool
printable b = leb 33 b and leb b 126 and not (eqb b percent)

-- `%` and the two digits of a byte
unfoldable pub coded : ℕ → Text
coded b = percent ∷ capital_digit (b / 16) ∷ capital_digit (b % 16) ∷ []

-- a field and the byte that ends it
unfoldable pub ended : ℕ → Text → Text
ended b f = f ++ (b ∷ [])

-- a field before the tab that parts it from the next
abbrev pub with_tab : Text → Text
with_tab f = ended tab f

-- the last field, before the line feed
abbrev pub with_feed : Text → Text
with_feed f = ended line_feed f

-- the fields that a line begins with
unfoldable pub line_start : ℕ → ℕ → ℕ → Text
line_start item spec kind = with_tab (shown_item item) ++ (with_tab (decimal spec) ++ with_tab (shown_kind kind))

-- a text of the program's input takes at most so many bytes: `=`, and three for each byte
abbrev pub shown_most : ℕ
shown_most = 1 + 3 * program_bytes

-- the line of a row so many: two numbers, a kind, two texts, and a byte after each
abbrev pub line_most : ℕ
line_most = 2 * decimal_digits + 6 + 2 * shown_most + 5

-- and the line of a refusal so many: the word, a number and a line feed
abbrev pub refusal_most : ℕ
refusal_most = 8 + decimal_digits + 1

-- a text that is lent, if one is
abbrev pub lent : prelude.Option (Bor Text) → Option Text
lent prelude.None = none
lent (prelude.Some t) = some t.now

-- and how many bytes it has
abbrev pub lent_size : prelude.Option (Bor Text) → ℕ
lent_size o = length (or_empty (lent o))

-- the row that is printed
abbrev pub row_meant : line.Row → Row
row_meant r = record { item = r.item; spec = r.spec; kind = r.kind; source = r.source.now; destination = lent r.destination }
