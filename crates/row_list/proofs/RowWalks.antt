-- A walk over a row list that was read. Assumes nothing.
use mathlib.Core.Logic.{◌⊎◌, inl, inr}
use mathlib.Core.Path.{◌≡◌, sym, ap, ◌∙◌}
use mathlib.Core.List.{List, [], ◌∷◌}
use mathlib.Core.Option.{some}
use Prim.Native.Nat.{ℕ, suc, ◌-◌, ◌<◌, ◌≤◌}
use native.Mathlib.Omega.{arith}
use lib.ListN.{length, drop}
use Rattle.meaning.specs.Bytes.{Text}
use Rattle.meaning.specs.Limits.{row_list_bytes}
use Rattle.meaning.specs.Spec.{accepted, refused}
use Rattle.meaning.specs.Rows as meaning
use Rattle.promises.specs.Facts.{records}
use Rattle.promises.proofs.Steps.{rows-shrink}
use Rattle.std.specs.Prelude.{Option, None, Some}
use Rattle.list.specs.declared.cursor.Record.{Record}
use Rattle.row_fields.specs.declared.RowPlace.{RowPlace}
use Rattle.parse.specs.declared.types.Side.TheVariants.{Head}
use Rattle.parse.specs.Places.{side_meant}
use Rattle.row_fields.specs.Fields.{row_meant, row_place, destination_place}
use Rattle.row_list.specs.Rows.{RowTaken, RowTurned, RowHere}
use Rattle.list.proofs.Records.{accepted-records, first_of, records-past, records-no, records-took}

-- what is left of a row list that was read, from a place on: row number j and those after it
pub record RowsLeft (specs : ℕ) (s : Text) (at j : ℕ) (rest : List meaning.Row) : Type 0 where
  pub within : at ≤ length s
  pub behind : j ≤ at
  pub reads : records (meaning.row_record specs) j (drop at s) ≡ accepted rest

-- the whole list, at its start
pub rows_left : (specs : ℕ) (s : Text) (l : List meaning.Row) → meaning.read_rows specs s ≡ accepted l → RowsLeft specs s 0 0 l
unfolding meaning.read_rows
rows_left specs s l e = record { within = omega arith; behind = omega arith; reads = accepted-records row_list_bytes (meaning.row_record specs) s l e }

-- the next row: what is left is that row before what is left after it
pub record RowNext (specs : ℕ) (s : Text) (row : RowPlace) (at' j : ℕ) (rest : List meaning.Row) : Type 0 where
  pub after : List meaning.Row
  pub is : rest ≡ row_meant s row ∷ after
  pub left : RowsLeft specs s at' (suc j) after

module _ (specs : ℕ) (s : Text) (at j : ℕ) (rest : List meaning.Row) (l : RowsLeft specs s at j rest) (w : Option (Record RowPlace)) (says : RowHere specs s at w) where
  pub rows_next : (r : Record RowPlace) → w ≡ Some r → RowNext specs s r.value r.next.at j rest
  rows_next r e =
      let t : RowTaken specs s at r.value r.next.at = rw e at says in
      let q = records-took (meaning.row_record specs) (rows-shrink specs) s at j (row_meant s r.value) (drop r.next.at s) t.here (t.reads j) in
      let f = first_of (row_meant s r.value) (records (meaning.row_record specs) (suc j) (drop r.next.at s)) rest (sym q ∙ l.reads) in
      record { after = f.after; is = f.is; left = record { within = t.within; behind = omega (arith, l.behind, t.on); reads = f.left } }

  -- where there is none, none is left: a list that was read refuses none
  pub rows_end : w ≡ None → rest ≡ []
  rows_end e = go (rw e at says)
    where
      go : (length s ≤ at) ⊎ ((n : ℕ) × RowTurned specs s at n) → rest ≡ []
      go (inl h) =
          let q : accepted [] ≡ accepted rest = sym (records-past (meaning.row_record specs) (rows-shrink specs) s at j h) ∙ l.reads in
          cc
      go (inr (n, t)) =
          let q : refused n (some j) ≡ accepted rest = sym (records-no (meaning.row_record specs) (rows-shrink specs) s at j n t.here (t.reads j)) ∙ l.reads in
          absurd (let z : ◌≡◌ {A = ℕ} 0 1 = cc in omega arith)

  -- less of the list is left
  pub rows-fewer : (r : Record RowPlace) → w ≡ Some r → length s - r.next.at < length s - at
  rows-fewer r e = let t : RowTaken specs s at r.value r.next.at = rw e at says in omega (arith, t.on, t.within)

-- no row has a supplied `HEAD` for its destination
pub never-head : (specs : ℕ) (s : Text) (at : ℕ) (row : RowPlace) (next : ℕ) → RowTaken specs s at row next → row.dst ≡ Head → ⊥
unfolding row_meant row_place
never-head specs s at row next t q =
    let p : row.dst ≡ destination_place next (side_meant s row.dst) = ap (λ (x : RowPlace). x.dst) t.placed in
    let h : Head ≡ destination_place next (side_meant s Head) = rw q at p in
    let z : ◌≡◌ {A = ℕ} 0 1 = cc in
    omega arith
