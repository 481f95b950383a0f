-- What is told of the row at a place of its list, and the list that is being read. Assumes nothing.
use mathlib.Core.Logic.{inl, inr}
use mathlib.Core.Path.{◌≡◌, refl, sym, ap, ◌∙◌}
use mathlib.Core.Bool.{Bool, true, false, not}
use Prim.Native.Nat.{ℕ, ◌+◌, ◌-◌, ◌<◌, ◌≤◌}
use native.Mathlib.Omega.{arith}
use borrow.Author.Tests.{lt-ltb, le-ltb}
use lib.ListN.{length, drop, length-drop}
use Rattle.meaning.specs.Bytes.{Text}
use Rattle.meaning.specs.Limits.{row_list_bytes}
use Rattle.meaning.specs.Number as meaning
use Rattle.meaning.specs.Rows as rows
use Rattle.promises.specs.Facts.{records}
use Rattle.promises.proofs.Members.{rows_long}
use Rattle.promises.proofs.Steps.{rows-shrink, list-records}
use Rattle.std.specs.Prelude.{Option, None, Some, Result, Ok, Err}
use Rattle.refusal.specs.declared.Refusal.{Refusal}
use Rattle.refusal.specs.declared.Refusal.TheVariants as refusals
use Rattle.refusal.specs.Numbers.{number_of}
use Rattle.list.specs.declared.cursor.Record.{Record}
use Rattle.list.specs.declared.refused.Refused.{Refused}
use Rattle.list.specs.Checked.{Checked, checked, numbered}
use Rattle.list.proofs.Readings.{numbered-ok, numbered-err, Reading, reading-whole, reading-refused, reading-more}
use Rattle.row_fields.specs.declared.RowPlace.{RowPlace}
use Rattle.row_fields.specs.Fields.{row_meant, FrontTaken, FrontSays}
use Rattle.row_list.specs.Rows.{placed_row, row_step_at, RowTaken, RowTurned, RowSays, found_row, RowHere}

not-true : (b : Bool) → not b ≡ true → b ≡ false
not-true true e = absurd (let z : ◌≡◌ {A = ℕ} 0 1 = cc in omega arith)
not-true false e = refl

not-false : (b : Bool) → not b ≡ false → b ≡ true
not-false true e = refl
not-false false e = absurd (let z : ◌≡◌ {A = ℕ} 0 1 = cc in omega arith)

-- the answers of `next_row`
pub row-past : (specs : ℕ) (s : Text) (at : ℕ) → length s ≤ at → Ok None ≡ row_step_at specs s at
unfolding row_step_at
row-past specs s at h = rw (le-ltb at (length s) h)

module _ (specs : ℕ) (s : Text) (at : ℕ) (here : at < length s) (a : Option (Record RowPlace)) (says : FrontSays s (rows.read_front (drop at s)) a) where
  -- the answer, by what reading the row comes to
  placed : (w : meaning.Step rows.Row) → rows.row_record specs 0 (drop at s) ≡ w → placed_row s w ≡ row_step_at specs s at
  unfolding row_step_at
  placed w e = rw (lt-ltb at (length s) here, e)

  module _ (r : Record RowPlace) (e : a ≡ Some r) where
    taken : FrontTaken s (rows.read_front (drop at s)) r.value r.next.at
    taken = rw e at says

    -- a row that was read whole is asked question 16
    asked : (j : ℕ) → rows.row_record specs j (drop at s) ≡ meaning.need 16 (rows.row_passes specs (row_meant s r.value)) (meaning.give (row_meant s r.value)) (drop r.next.at s)
    unfolding rows.row_record rows.read_row
    asked j = rw taken.reads

    module _ (b : Bool) (eb : b ≡ rows.row_passes specs (row_meant s r.value)) where
      module _ (p : not b ≡ true) where
        outside : (j : ℕ) → rows.row_record specs j (drop at s) ≡ meaning.no 16
        outside j = let q : rows.row_passes specs (row_meant s r.value) ≡ false = sym eb ∙ not-true b p in asked j ∙ rw q

        pub row-outside : Err refusals.RowOutside ≡ row_step_at specs s at
        row-outside = placed (meaning.no 16) (outside 0)

        pub outside-told : RowTurned specs s at 16
        outside-told = record { here = here; reads = outside }

      module _ (p : not b ≡ false) where
        passed : rows.row_passes specs (row_meant s r.value) ≡ true
        passed = sym eb ∙ not-false b p

        reads : (j : ℕ) → rows.row_record specs j (drop at s) ≡ meaning.took (row_meant s r.value) (drop r.next.at s)
        reads j = asked j ∙ rw passed

        pub row-passed : Ok (Some r) ≡ row_step_at specs s at
        row-passed =
            let l : length s - length (drop r.next.at s) ≡ r.next.at = rw (length-drop r.next.at s) (omega (arith, taken.within)) in
            let q = placed (meaning.took (row_meant s r.value) (drop r.next.at s)) (reads 0) in
            rw (l, ← taken.placed) at q

        pub row_told : RowTaken specs s at r.value r.next.at
        row_told =
            let t = taken in
            let k : length (drop r.next.at s) < length (drop at s) = rows-shrink specs 0 (drop at s) (row_meant s r.value) (drop r.next.at s) (reads 0) in
            record {
              here = here;
              reads = reads;
              src-within = t.src-within;
              dst-within = t.dst-within;
              spec-small = t.spec-small;
              placed = t.placed;
              passes = passed;
              on = omega (arith, length-drop r.next.at s, length-drop at s);
              within = t.within;
            }

  module _ (e : a ≡ None) where
    broken : (j : ℕ) → rows.row_record specs j (drop at s) ≡ meaning.no 13
    unfolding rows.row_record rows.read_row
    broken j =
        let t : rows.read_front (drop at s) ≡ meaning.no 13 = rw e at says in
        rw t

    pub row-broken : Err refusals.Malformed ≡ row_step_at specs s at
    row-broken = placed (meaning.no 13) (broken 0)

    pub broken-told : RowTurned specs s at 13
    broken-told = record { here = here; reads = broken }

-- the answers of `row_at`
row-here : (specs : ℕ) (s : Text) (at : ℕ) (w : Result (Option (Record RowPlace)) Refusal) → RowSays specs s at w → RowHere specs s at (found_row w)
row-here specs s at (Ok (Some r)) h = h
row-here specs s at (Ok None) h = inl h
row-here specs s at (Err e) h = inr (number_of e, h)

pub row-found : (specs : ℕ) (s : Text) (at : ℕ) (w : Result (Option (Record RowPlace)) Refusal) → w ≡ row_step_at specs s at → RowSays specs s at w → (o : Option (Record RowPlace)) → o ≡ found_row w → (o ≡ found_row (row_step_at specs s at)) × RowHere specs s at o
row-found specs s at w e h o q = (rw (← e) q, rw q (row-here specs s at w h))

module _ (specs : ℕ) (s : Text) (at : ℕ) (w : Result (Option (Record RowPlace)) Refusal) (says : RowSays specs s at w) (j : ℕ) (m : Result (Option (Record RowPlace)) Refused) (em : m ≡ numbered w j) where
  module _ (o : Option (Record RowPlace)) (eo : m ≡ Ok o) (r : Record RowPlace) (e : o ≡ Some r) where
    stood : RowTaken specs s at r.value r.next.at
    stood = let q = numbered-ok w j (Some r) (sym em ∙ eo ∙ ap (λ (x : Option (Record RowPlace)). Ok x) e) in rw q at says

    -- one more row
    pub rows_more : Reading (rows.row_record specs) s at j → Reading (rows.row_record specs) s r.next.at (j + 1)
    rows_more p = let t = stood in reading-more (rows.row_record specs) (rows-shrink specs) s at j p t.here (row_meant s r.value) r.next.at (t.reads j) t.on t.within

  -- at the end all are read
  pub rows_all : m ≡ Ok None → Reading (rows.row_record specs) s at j → record { refusal = 0; «record» = 0; count = j } ≡ checked (records (rows.row_record specs) 0 s)
  rows_all e p = let q = numbered-ok w j None (sym em ∙ e) in let h : length s ≤ at = rw q at says in reading-whole (rows.row_record specs) (rows-shrink specs) s at j p h

  -- a row is refused
  pub rows-stop : (x : Refused) → m ≡ Err x → Reading (rows.row_record specs) s at j → record { refusal = number_of x.refusal; «record» = x.«record»; count = 0 } ≡ checked (records (rows.row_record specs) 0 s)
  rows-stop x e p =
      let n = numbered-err w j x (sym em ∙ e) in
      let t : RowTurned specs s at (number_of x.refusal) = rw n.is at says in
      rw n.number (reading-refused (rows.row_record specs) (rows-shrink specs) s at j p t.here (number_of x.refusal) (t.reads j))

-- the answers of `read_rows`
pub rows-too-long : (specs : ℕ) (s : Text) → row_list_bytes < length s → record { refusal = 12; «record» = 0; count = 0 } ≡ checked (rows.read_rows specs s)
rows-too-long specs s h = rw (rows_long specs s h)

pub rows_are : (specs : ℕ) (s : Text) (r : Checked) → length s ≤ row_list_bytes → r ≡ checked (records (rows.row_record specs) 0 s) → r ≡ checked (rows.read_rows specs s)
unfolding rows.read_rows
rows_are specs s r h e = e ∙ ap checked (sym (list-records row_list_bytes (rows.row_record specs) s h))
