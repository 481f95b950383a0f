-- The walks over a row list: what is done and the rows that are left make the whole. Assumes nothing.
use mathlib.Core.Path.{◌≡◌, refl, sym, ap, ◌∙◌}
use mathlib.Core.List.{List, [], ◌∷◌, ◌++◌}
use Prim.Native.Nat.{ℕ, ◌+◌, ◌*◌, ◌≤◌}
use native.Mathlib.Omega.{arith}
use mir.Val.{Fits}
use mir.Syntax.{w64}
use lib.ListN.{length, length-append}
use Rattle.meaning.specs.Bytes.{Text}
use Rattle.meaning.specs.Limits.{spec_count, program_bytes}
use Rattle.meaning.specs.Rows as meaning
use Rattle.meaning.specs.Deliveries.{row_line}
use Rattle.buffer.specs.Splice.{splice}
use Rattle.buffer.proofs.Writing.{Writing, writing-starts, writing-room, writing_more, written-place, written-whole}
use Rattle.std.specs.Prelude.{Option, None, Some}
use Rattle.list.specs.declared.cursor.Record.{Record}
use Rattle.print.specs.Lines.{line_most}
use Rattle.row_fields.specs.declared.RowPlace.{RowPlace}
use Rattle.row_fields.specs.Fields.{row_meant}
use Rattle.row_list.specs.Rows.{RowTaken, RowHere}
use Rattle.row_list.proofs.RowWalks.{RowsLeft, rows_left, rows_next, rows_end}
use Rattle.deliver.specs.Printed.{fetch_rows_in, row_lines, Listed, RowStands}

-- all rows of a list are left at its start
all_left : (list : Text) → Listed list → (at : ℕ) → at ≡ 0 → RowsLeft spec_count list at 0 (fetch_rows_in list)
all_left list l at e = rw e (rows_left spec_count list (fetch_rows_in list) l.reads)

-- a line before those that follow it
lines_next : (r : meaning.Row) (after : List meaning.Row) → row_lines (r ∷ after) ≡ row_line r ++ row_lines after
unfolding row_lines
lines_next r after = refl

lines_none : row_lines [] ≡ []
unfolding row_lines
lines_none = refl

-- a row that the cursor answers stands within the list
pub row-stands : (list : Text) → Listed list → (at : ℕ) (w : Option (Record RowPlace)) → RowHere spec_count list at w → (r : Record RowPlace) → w ≡ Some r → RowStands list r.value
row-stands list l at w says r e =
    let t : RowTaken spec_count list at r.value r.next.at = rw e at says in
    record { short = l.short; src-within = t.src-within; dst-within = t.dst-within }

-- the lines are measured as far as a place
pub record Measured (list : Text) (at size : ℕ) : Type 0 where
  pub number : ℕ
  pub rest : List meaning.Row
  pub left : RowsLeft spec_count list at number rest
  pub small : size ≤ line_most * at
  pub whole : size + length (row_lines rest) ≡ length (row_lines (fetch_rows_in list))

-- nothing is measured at the start
pub measured-starts : (list : Text) → Listed list → (at : ℕ) → at ≡ 0 → Measured list at 0
measured-starts list l at e = record { number = 0; rest = fetch_rows_in list; left = all_left list l at e; small = omega arith; whole = omega arith }

-- few enough that a machine's number holds the sum with one line more
module _ (list : Text) (l : Listed list) (at size : ℕ) (m : Measured list at size) where
  pub measured-small : size ≤ line_most * program_bytes
  measured-small = omega (arith, m.small, m.left.within, l.short)

  pub measured-fits : (n : ℕ) → n ≤ line_most → Fits w64 (size + n)
  measured-fits n h = omega (arith, measured-small)

module _ (list : Text) (at size : ℕ) (m : Measured list at size) (w : Option (Record RowPlace)) (says : RowHere spec_count list at w) where
  -- one line more
  pub measured-more : (r : Record RowPlace) → w ≡ Some r → (n : ℕ) → n ≡ length (row_line (row_meant list r.value)) → n ≤ line_most → Measured list r.next.at (size + n)
  measured-more r e n f h =
      let t : RowTaken spec_count list at r.value r.next.at = rw e at says in
      let x = rows_next spec_count list at m.number m.rest m.left w says r e in
      let g : length (row_lines m.rest) ≡ n + length (row_lines x.after) = ap (λ (k : List meaning.Row). length (row_lines k)) x.is ∙ ap length (lines_next (row_meant list r.value) x.after) ∙ length-append (row_line (row_meant list r.value)) (row_lines x.after) ∙ ap (λ (k : ℕ). k + length (row_lines x.after)) (sym f) in
      record { number = _; rest = x.after; left = x.left; small = omega (arith, m.small, t.on); whole = omega (arith, m.whole) }

  -- at the end all are measured
  pub measured-whole : w ≡ None → size ≡ length (row_lines (fetch_rows_in list))
  measured-whole e =
      let x = rows_end spec_count list at m.number m.rest m.left w says e in
      let z : length (row_lines m.rest) ≡ 0 = ap (λ (k : List meaning.Row). length (row_lines k)) x ∙ ap length lines_none in
      omega (arith, m.whole)

-- the lines are written as far as a place
pub record WrittenRows (d : Text) (from : ℕ) (list : Text) (at : ℕ) (out : Text) (i : ℕ) : Type 0 where
  pub number : ℕ
  pub rest : List meaning.Row
  pub left : RowsLeft spec_count list at number rest
  pub writing : Writing d from (row_lines (fetch_rows_in list)) out i (row_lines rest)

-- nothing is written at the start
pub written-starts : (d : Text) (from : ℕ) (list : Text) → Listed list → from + length (row_lines (fetch_rows_in list)) ≤ length d → (at : ℕ) → at ≡ 0 → WrittenRows d from list at d from
written-starts d from list l h at e = record { number = 0; rest = fetch_rows_in list; left = all_left list l at e; writing = writing-starts d from (row_lines (fetch_rows_in list)) h }

module _ (d : Text) (from : ℕ) (list : Text) (at : ℕ) (out : Text) (i : ℕ) (m : WrittenRows d from list at out i) (w : Option (Record RowPlace)) (says : RowHere spec_count list at w) where
  -- a row and those after it
  module _ (r : Record RowPlace) (e : w ≡ Some r) where
    pieces : (after : List meaning.Row) → m.rest ≡ row_meant list r.value ∷ after → row_lines m.rest ≡ row_line (row_meant list r.value) ++ row_lines after
    pieces after f = ap row_lines f ∙ lines_next (row_meant list r.value) after

    -- its line has room
    pub written-room : i + length (row_line (row_meant list r.value)) ≤ length out
    written-room =
        let x = rows_next spec_count list at m.number m.rest m.left w says r e in
        writing-room d from (row_lines (fetch_rows_in list)) out i (row_lines m.rest) m.writing (row_line (row_meant list r.value)) (row_lines x.after) (pieces x.after x.is)

    -- one line more
    pub written-more : (o : Text) (j : ℕ) → o ≡ splice out i (row_line (row_meant list r.value)) → j ≡ i + length (row_line (row_meant list r.value)) → WrittenRows d from list r.next.at o j
    written-more o j p q =
        let x = rows_next spec_count list at m.number m.rest m.left w says r e in
        record { number = _; rest = x.after; left = x.left; writing = writing_more d from (row_lines (fetch_rows_in list)) out i (row_lines m.rest) m.writing (row_line (row_meant list r.value)) (row_lines x.after) (pieces x.after x.is) o j p q }

  -- at the end all are written
  nothing : w ≡ None → row_lines m.rest ≡ []
  nothing e = ap row_lines (rows_end spec_count list at m.number m.rest m.left w says e) ∙ lines_none

  pub written-put : w ≡ None → out ≡ splice d from (row_lines (fetch_rows_in list))
  written-put e = written-whole d from (row_lines (fetch_rows_in list)) out i (row_lines m.rest) m.writing (nothing e)

  pub written-ends : w ≡ None → i ≡ from + length (row_lines (fetch_rows_in list))
  written-ends e = written-place d from (row_lines (fetch_rows_in list)) out i (row_lines m.rest) m.writing (nothing e)
