-- The row with an item field: an object's, or a name's. Assumes nothing.
use mathlib.Core.Path.{◌≡◌, refl}
use mathlib.Core.Bool.{Bool, true, false, cond}
use mathlib.Core.List.{[], ◌++◌}
use mathlib.Core.Option.{Option, none, some}
use Prim.Native.Nat.{ℕ, zero, suc, ◌<◌}
use native.Mathlib.Omega.{arith}
use lib.ListN.{length}
use Rattle.meaning.specs.Bytes.{Text, each}
use Rattle.meaning.specs.Spec.{Spec}
use Rattle.meaning.specs.Rows.{Row, row_bytes, row_list_of}
use Rattle.meaning.specs.Listing.{Ends, name_row}
use Rattle.matcher.specs.Matching.{object_ends, object_row_of}
use Rattle.match_one.proofs.Objects.{object-rows}
use Rattle.row.specs.declared.Kind.TheVariants as Kind-is
use Rattle.match_row.specs.Pairs.{ends_in, row_unless, item_bytes, object_bytes, kind_at, field_row, given_row, field_bytes}

pub kind-of-name : (field : ℕ) → (field ≡ 0 → ⊥) → Kind-is.Name ≡ kind_at field
kind-of-name zero n = absurd (n refl)
kind-of-name (suc j) n = refl

-- a row that takes bytes is the one of its item field, whatever is gone
pub pair-stands : (back : Bool) (gone : Text → Bool) (i j : ℕ) (name : Text) (s : Spec) → 0 < length (item_bytes back gone i j name s) → item_bytes back gone i j name s ≡ field_bytes back i (suc j) name s
unfolding item_bytes field_bytes
pair-stands back gone i j name s h = go (ends_in back s name) h
  where
    row : (r : Row) (b : Bool) → 0 < length (cond b [] (row_bytes r) ++ []) → cond b [] (row_bytes r) ++ [] ≡ row_bytes r ++ []
    row r true p = absurd (omega arith)
    row r false p = refl

    go : (e : Option Ends) → 0 < length (each (name_row i j e) (row_unless gone)) → each (name_row i j e) (row_unless gone) ≡ each (given_row i (suc j) e) row_bytes
    go none p = refl
    go (some e) p = row (field_row i (suc j) e) (gone e.source) p

pub object-stands : (back : Bool) (i : ℕ) (name : Text) (s : Spec) → object_bytes i s ≡ field_bytes back i 0 name s
unfolding object_bytes field_bytes row_list_of
object-stands back i name s = rw (object-rows i s) (go (object_ends s))
  where
    go : (e : Option Ends) → each (object_row_of i e) row_bytes ≡ each (given_row i 0 e) row_bytes
    go none = refl
    go (some e) = refl
