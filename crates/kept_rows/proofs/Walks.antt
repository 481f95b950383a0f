-- The loops over a row list that was read: what is measured or written, and what the rows that are left give, make the whole. Assumes
-- nothing.
use mathlib.Core.Path.{◌≡◌, refl, sym, ap, ◌∙◌}
use mathlib.Core.Bool.{Bool, true, false, cond}
use mathlib.Core.List.{List, [], ◌∷◌, ◌++◌}
use Prim.Native.Nat.{ℕ, suc, ◌+◌, ◌*◌, ◌≤◌}
use native.Mathlib.Nat.{zero-add}
use native.Mathlib.Omega.{arith}
use mir.Val.{Fits}
use mir.Syntax.{w8}
use lib.ListN.{length, get_or, length-append}
use Rattle.meaning.specs.Bytes.{Text, keep, each}
use Rattle.meaning.specs.Limits.{row_list_bytes}
use Rattle.meaning.specs.Spec.{accepted}
use Rattle.meaning.specs.Rows as meaning
use Rattle.meaning.specs.Validation.{is_kept, fix_of, fix_bytes}
use Rattle.promises.proofs.Laws.{each_append}
use Rattle.buffer.specs.Splice.{splice}
use Rattle.buffer.proofs.Writing.{Writing, writing-starts, writing-room, writing_more, written-place, written-whole}
use Rattle.parse.specs.Places.{side_meant}
use Rattle.std.specs.Prelude.{Option, None, Some}
use Rattle.list.specs.declared.cursor.Record.{Record}
use Rattle.row_fields.specs.declared.RowPlace.{RowPlace}
use Rattle.row_fields.specs.Fields.{row_meant}
use Rattle.row_list.specs.Rows.{RowTaken, RowHere}
use Rattle.row_list.proofs.RowWalks.{RowsLeft, rows_left, RowNext, rows_next, rows_end}
use Rattle.row_list.specs.Lists.{rows_in, RowsRead}
use Rattle.conflicts.proofs.Walks.{list-short}
use Rattle.conflicts.proofs.Spelled.{spelled}
use Rattle.kept_rows.specs.Rows.{kept_bytes, fix_numbers_most, fix_for, row_fix}
use Rattle.kept_rows.proofs.Fixes.{fix-shorter}

-- what the rows give, row by row

kept-each : (l : List meaning.Row) → meaning.row_list_of (keep is_kept l) ≡ each l kept_bytes
unfolding meaning.row_list_of kept_bytes
kept-each [] = refl
kept-each (r ∷ l) = go (is_kept r) (kept-each l)
  where
    go : (b : Bool) → each (keep is_kept l) meaning.row_bytes ≡ each l kept_bytes → each (cond b (r ∷ keep is_kept l) (keep is_kept l)) meaning.row_bytes ≡ cond b (meaning.row_bytes r) [] ++ each l kept_bytes
    go true e = ap (λ (k : Text). meaning.row_bytes r ++ k) e
    go false e = e

fixes-each : (l : List meaning.Row) → each (each l fix_of) fix_bytes ≡ each l row_fix
unfolding fix_of row_fix fix_for
fixes-each [] = refl
fixes-each (r ∷ l) = each_append (fix_of r) (each l fix_of) fix_bytes ∙ ap (λ (k : Text). each (fix_of r) fix_bytes ++ k) (fixes-each l)

-- what the rows give is no longer than the rows

each-shorter : (f g : meaning.Row → Text) → ((r : meaning.Row) → length (f r) ≤ length (g r)) → (l : List meaning.Row) → length (each l f) ≤ length (each l g)
each-shorter f g h [] = omega arith
each-shorter f g h (r ∷ l) = omega (arith, h r, each-shorter f g h l, length-append (f r) (each l f), length-append (g r) (each l g))

kept-shorter : (r : meaning.Row) → length (kept_bytes r) ≤ length (meaning.row_bytes r)
unfolding kept_bytes
kept-shorter r = go (is_kept r)
  where
    go : (b : Bool) → length (cond b (meaning.row_bytes r) []) ≤ length (meaning.row_bytes r)
    go true = omega arith
    go false = omega arith

module _ (specs : ℕ) (s : Text) (r : RowsRead specs s) (o : (i : ℕ) → Fits w8 (get_or s i 0)) where
  rows-spelled : length s ≡ length (each (rows_in specs s) meaning.row_bytes)
  unfolding meaning.row_list_of
  rows-spelled = ap length (spelled specs s r o)

  pub kept-within : (d : ℕ) → length s ≤ d → length (meaning.row_list_of (keep is_kept (rows_in specs s))) ≤ d
  kept-within d h = omega (arith, rows-spelled, ap length (kept-each (rows_in specs s)), each-shorter kept_bytes meaning.row_bytes kept-shorter (rows_in specs s))

  pub fixes-within : (d : ℕ) → length s ≤ d → length (each (each (rows_in specs s) fix_of) fix_bytes) ≤ d
  fixes-within d h = omega (arith, rows-spelled, ap length (fixes-each (rows_in specs s)), each-shorter row_fix meaning.row_bytes fix-shorter (rows_in specs s))

-- a list that was read
rows_are : (specs : ℕ) (s : Text) (l : List meaning.Row) → meaning.read_rows specs s ≡ accepted l → rows_in specs s ≡ l
rows_are specs s l e = rw e

-- where a walk stands: the rows that are left
pub record Walk (specs : ℕ) (s : Text) (at number : ℕ) (rest : List meaning.Row) : Type 0 where
  pub left : RowsLeft specs s at number rest
  pub short : length s ≤ row_list_bytes

-- what the rows behind take is measured
pub record Counted (specs : ℕ) (s : Text) (f : meaning.Row → Text) (at size : ℕ) : Type 0 where
  pub number : ℕ
  pub rest : List meaning.Row
  pub walk : Walk specs s at number rest
  pub done : size + length (each rest f) ≡ length (each (rows_in specs s) f)
  pub small : size ≤ number * (row_list_bytes + fix_numbers_most)

-- what they give is written
pub record WrittenRows (specs : ℕ) (s : Text) (f : meaning.Row → Text) (d : Text) (at : ℕ) (out : Text) (to : ℕ) : Type 0 where
  pub number : ℕ
  pub rest : List meaning.Row
  pub walk : Walk specs s at number rest
  pub writing : Writing d 0 (each (rows_in specs s) f) out to (each rest f)

walk-starts : (specs : ℕ) (s : Text) → RowsRead specs s → Walk specs s 0 0 (rows_in specs s)
walk-starts specs s r = rw (rows_are specs s r.list r.reads) (record { left = rows_left specs s r.list r.reads; short = list-short specs s r })

module _ (specs : ℕ) (s : Text) (at : ℕ) (w : Option (Record RowPlace)) (says : RowHere specs s at w) (r : Record RowPlace) (e : w ≡ Some r) where
  -- the r.value that the cursor hands back
  pub row-taken : RowTaken specs s at r.value r.next.at
  row-taken = rw e at says

  -- and what is left after it
  module _ (j : ℕ) (rest : List meaning.Row) (k : Walk specs s at j rest) where
    next_row : RowNext specs s r.value r.next.at j rest
    next_row = rows_next specs s at j rest k.left w says r e

    walk-on : Walk specs s r.next.at (suc j) next_row.after
    walk-on = record { left = next_row.left; short = k.short }

    next-text : (f : meaning.Row → Text) → each rest f ≡ f (row_meant s r.value) ++ each next_row.after f
    next-text f = ap (λ (l : List meaning.Row). each l f) next_row.is

-- measured
pub within_more : (n len : ℕ) → n ≤ len → n ≤ len + fix_numbers_most
within_more n len h = omega arith

pub counted-starts : (specs : ℕ) (s : Text) (f : meaning.Row → Text) → RowsRead specs s → (at : ℕ) → at ≡ 0 → Counted specs s f at 0
counted-starts specs s f r at e = rw e (record { number = 0; rest = rows_in specs s; walk = walk-starts specs s r; done = omega arith; small = omega arith })

module _ (specs : ℕ) (s : Text) (f : meaning.Row → Text) (at size : ℕ) (c : Counted specs s f at size) where
  module _ (w : Option (Record RowPlace)) (says : RowHere specs s at w) where
    module _ (r : Record RowPlace) (e : w ≡ Some r) (n : ℕ) (small : n ≤ length s + fix_numbers_most) where
      pub counted-more : n ≡ length (f (row_meant s r.value)) → Counted specs s f r.next.at (size + n)
      counted-more en =
          let x = next_row specs s at w says r e c.number c.rest c.walk in
          record {
            number = suc c.number;
            rest = x.after;
            walk = walk-on specs s at w says r e c.number c.rest c.walk;
            done = omega (arith, c.done, ap length (next-text specs s at w says r e c.number c.rest c.walk f), length-append (f (row_meant s r.value)) (each x.after f));
            small = omega (arith, c.small, c.walk.short);
          }

    pub counted-all : w ≡ None → size ≡ length (each (rows_in specs s) f)
    counted-all e = let z : each c.rest f ≡ [] = ap (λ (l : List meaning.Row). each l f) (rows_end specs s at c.number c.rest c.walk.left w says e) in omega (arith, c.done, ap length z)

-- the ends of the loops that measure
module _ (specs : ℕ) (s : Text) (at size : ℕ) (w : Option (Record RowPlace)) (says : RowHere specs s at w) where
  module _ (c : Counted specs s kept_bytes at size) where
    pub kept-counted : w ≡ None → size ≡ length (meaning.row_list_of (keep is_kept (rows_in specs s)))
    kept-counted e = counted-all specs s kept_bytes at size c w says e ∙ ap length (sym (kept-each (rows_in specs s)))

  module _ (c : Counted specs s row_fix at size) where
    pub fix-counted : (r : Record RowPlace) → w ≡ Some r → (n : ℕ) → n ≤ length s + fix_numbers_most → n ≡ length (fix_for r.value.spec (side_meant s r.value.dst)) → Counted specs s row_fix r.next.at (size + n)
    unfolding row_fix row_meant
    fix-counted r e n h en = counted-more specs s row_fix at size c w says r e n h en

    pub fixes-counted : w ≡ None → size ≡ length (each (each (rows_in specs s) fix_of) fix_bytes)
    fixes-counted e = counted-all specs s row_fix at size c w says e ∙ ap length (sym (fixes-each (rows_in specs s)))

-- written
pub written-starts : (specs : ℕ) (s : Text) (f : meaning.Row → Text) → RowsRead specs s → (d : Text) → length (each (rows_in specs s) f) ≤ length d → (at : ℕ) → at ≡ 0 → WrittenRows specs s f d at d 0
written-starts specs s f r d h at e = rw e (record { number = 0; rest = rows_in specs s; walk = walk-starts specs s r; writing = writing-starts d 0 (each (rows_in specs s) f) (omega arith) })

pub kept-starts : (specs : ℕ) (s : Text) → RowsRead specs s → (d : Text) → length (meaning.row_list_of (keep is_kept (rows_in specs s))) ≤ length d → (at : ℕ) → at ≡ 0 → WrittenRows specs s kept_bytes d at d 0
kept-starts specs s r d h at e = written-starts specs s kept_bytes r d (rw (← kept-each (rows_in specs s)) h) at e

pub fixes-starts : (specs : ℕ) (s : Text) → RowsRead specs s → (d : Text) → length (each (each (rows_in specs s) fix_of) fix_bytes) ≤ length d → (at : ℕ) → at ≡ 0 → WrittenRows specs s row_fix d at d 0
fixes-starts specs s r d h at e = written-starts specs s row_fix r d (rw (← fixes-each (rows_in specs s)) h) at e

module _ (specs : ℕ) (s : Text) (f : meaning.Row → Text) (d : Text) (at : ℕ) (out : Text) (to : ℕ) (c : WrittenRows specs s f d at out to) where
  pub written-short : length s ≤ row_list_bytes
  written-short = c.walk.short

  module _ (w : Option (Record RowPlace)) (says : RowHere specs s at w) where
    module _ (r : Record RowPlace) (e : w ≡ Some r) where
      written-room : to + length (f (row_meant s r.value)) ≤ length out
      written-room =
          let x = next_row specs s at w says r e c.number c.rest c.walk in
          writing-room d 0 (each (rows_in specs s) f) out to (each c.rest f) c.writing (f (row_meant s r.value)) (each x.after f) (next-text specs s at w says r e c.number c.rest c.walk f)

      pub written-more : (o : Text) (i : ℕ) → o ≡ splice out to (f (row_meant s r.value)) → i ≡ to + length (f (row_meant s r.value)) → WrittenRows specs s f d r.next.at o i
      written-more o i eo ei =
          let x = next_row specs s at w says r e c.number c.rest c.walk in
          record {
            number = suc c.number;
            rest = x.after;
            walk = walk-on specs s at w says r e c.number c.rest c.walk;
            writing = writing_more d 0 (each (rows_in specs s) f) out to (each c.rest f) c.writing (f (row_meant s r.value)) (each x.after f) (next-text specs s at w says r e c.number c.rest c.walk f) o i eo ei;
          }

    written-length : w ≡ None → to ≡ length (each (rows_in specs s) f)
    written-length e = written-place d 0 (each (rows_in specs s) f) out to (each c.rest f) c.writing (ap (λ (l : List meaning.Row). each l f) (rows_end specs s at c.number c.rest c.walk.left w says e)) ∙ zero-add (length (each (rows_in specs s) f))

    written_all : w ≡ None → out ≡ splice d 0 (each (rows_in specs s) f)
    written_all e = written-whole d 0 (each (rows_in specs s) f) out to (each c.rest f) c.writing (ap (λ (l : List meaning.Row). each l f) (rows_end specs s at c.number c.rest c.walk.left w says e))

-- the turns and the ends of the loop that writes
module _ (specs : ℕ) (s d : Text) (at : ℕ) (out : Text) (to : ℕ) (w : Option (Record RowPlace)) (says : RowHere specs s at w) where
  module _ (c : WrittenRows specs s kept_bytes d at out to) where
    pub kept-room : (r : Record RowPlace) → w ≡ Some r → to + length (kept_bytes (row_meant s r.value)) ≤ length out
    kept-room r e = written-room specs s kept_bytes d at out to c w says r e

    pub kept-written : w ≡ None → out ≡ splice d 0 (meaning.row_list_of (keep is_kept (rows_in specs s)))
    kept-written e = written_all specs s kept_bytes d at out to c w says e ∙ ap (splice d 0) (sym (kept-each (rows_in specs s)))

    pub kept-length : w ≡ None → to ≡ length (meaning.row_list_of (keep is_kept (rows_in specs s)))
    kept-length e = written-length specs s kept_bytes d at out to c w says e ∙ ap length (sym (kept-each (rows_in specs s)))

  module _ (c : WrittenRows specs s row_fix d at out to) where
    pub fixes-room : (r : Record RowPlace) → w ≡ Some r → to + length (row_fix (row_meant s r.value)) ≤ length out
    fixes-room r e = written-room specs s row_fix d at out to c w says r e

    pub fixes-written : w ≡ None → out ≡ splice d 0 (each (each (rows_in specs s) fix_of) fix_bytes)
    fixes-written e = written_all specs s row_fix d at out to c w says e ∙ ap (splice d 0) (sym (fixes-each (rows_in specs s)))

    pub fixes-length : w ≡ None → to ≡ length (each (each (rows_in specs s) fix_of) fix_bytes)
    fixes-length e = written-length specs s row_fix d at out to c w says e ∙ ap length (sym (fixes-each (rows_in specs s)))
