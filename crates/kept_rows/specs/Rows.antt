-- What a row gives to the kept rows and to the fixes.
use Rattle.std.specs.Prelude.{ℕ, ◌*◌, cond, []}
use Rattle.std.proofs.Math.Option.{Option}
use Rattle.meaning.specs.Bytes.{Text, each}
use Rattle.meaning.specs.Limits.{number_groups}
use Rattle.meaning.specs.Rows.{Row, row_bytes}
use Rattle.meaning.specs.Validation.{is_full, is_kept, fix_by, fix_bytes}

-- the bytes of a row that is kept; none of one that goes out
unfoldable pub kept_bytes : Row → Text
kept_bytes r = cond (is_kept r) (row_bytes r) []

-- the bytes of the fix of a destination under spec i; none of one that is full
unfoldable pub fix_on : ℕ → Text → Text
fix_on i t = cond (is_full t) [] (fix_bytes (record { name = t; spec = i }))

-- those of a destination that may be absent
unfoldable pub fix_for : ℕ → Option Text → Text
fix_for i dst = each (fix_by i dst) fix_bytes

-- those of a row
unfoldable pub row_fix : Row → Text
row_fix r = fix_for r.spec r.destination

-- the most bytes of a fix beside its name: two numbers
abbrev pub fix_numbers_most : ℕ
fix_numbers_most = 2 * number_groups
