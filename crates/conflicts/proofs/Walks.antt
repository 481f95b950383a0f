-- A walk over the rows of a list that was read. Assumes nothing.
use mathlib.Core.Path.{◌≡◌, refl, ap, ◌∙◌, subst}
use mathlib.Core.List.{List, [], ◌∷◌}
use Prim.Native.Nat.{ℕ, suc, ◌+◌, ◌≤◌}
use native.Mathlib.Numerals.{add-one}
use lib.ListN.{length, drop}
use Rattle.meaning.specs.Bytes.{Text}
use Rattle.meaning.specs.Limits.{row_list_bytes}
use Rattle.meaning.specs.Spec.{accepted}
use Rattle.meaning.specs.Rows as meaning
use Rattle.parse.specs.declared.types.Side.{Side}
use Rattle.parse.specs.declared.types.Side.TheVariants.{Absent, Part, Head}
use Rattle.parse.specs.Places.{Within}
use Rattle.list.proofs.Standing.{drop-rest}
use Rattle.std.specs.Prelude.{Option, None, Some}
use Rattle.list.specs.declared.cursor.Record.{Record}
use Rattle.row_fields.specs.declared.RowPlace.{RowPlace}
use Rattle.row_fields.specs.Fields.{row_meant}
use Rattle.row_list.specs.Rows.{RowTaken, RowHere}
use Rattle.list.proofs.Records.{accepted-within}
use Rattle.row_list.proofs.RowWalks.{RowsLeft, rows_left, rows_next, rows_end, never-head}
use Rattle.row_list.specs.Lists.{rows_in, RowsRead}
use Rattle.conflicts.specs.ConflictBytes.{InList}

-- where the cursor stands: j rows are behind it
pub record At (specs : ℕ) (s : Text) (at j : ℕ) : Type 0 where
  pub left : RowsLeft specs s at j (drop j (rows_in specs s))
  pub short : length s ≤ row_list_bytes

rows_short : (specs : ℕ) (s : Text) (l : List meaning.Row) → meaning.read_rows specs s ≡ accepted l → length s ≤ row_list_bytes
unfolding meaning.read_rows
rows_short specs s l e = accepted-within row_list_bytes (meaning.row_record specs) s l e

module _ (specs : ℕ) (s : Text) (r : RowsRead specs s) where
  pub list-short : length s ≤ row_list_bytes
  list-short = rows_short specs s r.list r.reads

  pub at-start : (at : ℕ) → at ≡ 0 → At specs s at 0
  at-start at e = record { left = rw (e, r.reads) (rows_left specs s r.list r.reads); short = list-short }

-- the row that the cursor hands back is the next one
pub record Next (specs : ℕ) (s : Text) (row : RowPlace) (next j : ℕ) : Type 0 where
  pub is : drop j (rows_in specs s) ≡ row_meant s row ∷ drop (j + 1) (rows_in specs s)
  pub there : At specs s next (j + 1)

within-list : (len : ℕ) (side : Side) → Within len side → (side ≡ Head → ⊥) → InList len side
within-list len Absent w h = tt
within-list len (Part at n) w h = w
within-list len Head w h = h refl

module _ (specs : ℕ) (s : Text) (at j : ℕ) (a : At specs s at j) (w : Option (Record RowPlace)) (says : RowHere specs s at w) where
  module _ (r : Record RowPlace) (e : w ≡ Some r) where
    pub taken : RowTaken specs s at r.value r.next.at
    taken = rw e at says

    pub next_row : Next specs s r.value r.next.at j
    next_row =
        let n = rows_next specs s at j (drop j (rows_in specs s)) a.left w says r e in
        let d = drop-rest (rows_in specs s) j (row_meant s r.value) n.after n.is in
        record {
          is = rw (add-one j) (n.is ∙ ap (λ (l : List meaning.Row). row_meant s r.value ∷ l) d);
          there = record { left = rw (add-one j) (subst (RowsLeft specs s r.next.at (suc j)) d n.left); short = a.short };
        }

    pub next-destination : InList (length s) r.value.dst
    next-destination = within-list (length s) r.value.dst taken.dst-within (never-head specs s at r.value r.next.at taken)

  -- at the end no r.value is left
  pub end_row : w ≡ None → drop j (rows_in specs s) ≡ []
  end_row e = rows_end specs s at j (drop j (rows_in specs s)) a.left w says e
