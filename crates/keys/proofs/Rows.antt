-- The row at a place: its fields are those that were read, or of a row without anything; its destination. Assumes nothing.
use mathlib.Core.Path.{◌≡◌, refl}
use Prim.Native.Nat.{ℕ}
use native.Mathlib.Omega.{arith}
use lib.ListN.{drop}
use Rattle.meaning.specs.Bytes.{Text, or_empty}
use Rattle.meaning.specs.Number.{Step, took, no}
use Rattle.meaning.specs.Rows.{Row, read_front}
use Rattle.parse.specs.declared.types.Side.TheVariants.{Absent}
use Rattle.row_fields.specs.declared.RowPlace.{RowPlace}
use Rattle.std.specs.Prelude.{Option, None, Some}
use Rattle.list.specs.declared.cursor.Record.{Record}
use Rattle.row_fields.specs.Fields.{row_meant, FrontTaken, FrontSays}
use Rattle.row_fields.specs.Stages.{destination_in}
use Rattle.keys.specs.Keys.{row_or, row_at, Finds}

-- the answers of `fields`
module _ (s : Text) (at : ℕ) (a : Option (Record RowPlace)) (says : FrontSays s (read_front (drop at s)) a) where
  pub row-found : (r : Record RowPlace) → a ≡ Some r → Finds s (row_at s at) r.value
  unfolding row_at
  row-found r e =
      let t : FrontTaken s (read_front (drop at s)) r.value r.next.at = rw e at says in
      rw t.reads (record { means = refl; spec-small = t.spec-small; kind-small = t.kind-small; source-within = t.src-within; destination-within = t.dst-within })

  pub none_found : (f : RowPlace) → a ≡ None → f ≡ record { item = 0; spec = 0; kind = 0; src = record { at = 0; len = 0 }; dst = Absent } → Finds s (row_at s at) f
  unfolding row_at row_meant
  none_found f e h =
      let t : read_front (drop at s) ≡ no 13 = rw e at says in
      rw (t, h) (record { means = refl; spec-small = omega arith; kind-small = omega arith; source-within = omega arith; destination-within = tt })

-- the destination of the row at a place is that of the row that is read there
pub destination-there : (s : Text) (p : ℕ) → destination_in (read_front (drop p s)) ≡ or_empty (row_at s p).destination
unfolding row_at
destination-there s p = go (read_front (drop p s))
  where
    go : (w : Step Row) → destination_in w ≡ or_empty (row_or w).destination
    go (took r rest) = refl
    go (no n) = refl
