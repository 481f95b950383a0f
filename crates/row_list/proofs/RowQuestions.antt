-- Question 16, asked of a row's places. Assumes nothing.
use mathlib.Core.Path.{◌≡◌, ◌∙◌}
use mathlib.Core.Bool.{Bool}
use Prim.Native.Nat.{ℕ, ◌<◌, ◌≤◌}
use borrow.Author.Tests.{lt-ltb, le-ltb, eq-eqb, ne_eqb}
use lib.Dec.{eqb, ltb}
use lib.ListN.{length}
use Rattle.meaning.specs.Bytes.{Text, every, lower_hex_digit}
use Rattle.meaning.specs.Limits.{id_digits}
use Rattle.meaning.specs.Rows.{object_digits, row_passes}
use Rattle.parse.specs.Places.{part_at}
use Rattle.row_fields.specs.declared.RowPlace.{RowPlace}
use Rattle.row_fields.specs.Fields.{row_meant}

-- the answers of `object_digits`
module _ (t : Text) where
  pub digits-other : (length t ≡ id_digits → ⊥) → eqb (length t) id_digits ≡ object_digits t
  unfolding object_digits
  digits-other h = rw (ne_eqb (length t) id_digits h)

  pub digits-many : (r : Bool) → length t ≡ id_digits → r ≡ every lower_hex_digit t → r ≡ object_digits t
  unfolding object_digits
  digits-many r h e = e ∙ rw (eq-eqb (length t) id_digits h)

-- the answers of `row_passes`
module _ (s : Text) (specs : ℕ) (row : RowPlace) where
  pub passes-no-spec : specs ≤ row.spec → ltb row.spec specs ≡ row_passes specs (row_meant s row)
  unfolding row_passes row_meant
  passes-no-spec h = rw (le-ltb row.spec specs h)

  module _ (within : row.spec < specs) where
    pub passes-name : row.kind ≡ 0 → eqb row.kind 0 ≡ row_passes specs (row_meant s row)
    unfolding row_passes row_meant
    passes-name e = rw (lt-ltb row.spec specs within, e)

    module _ (no_name : row.kind ≡ 0 → ⊥) where
      pub passes-no-kind : (row.kind ≡ 1 → ⊥) → eqb row.kind 1 ≡ row_passes specs (row_meant s row)
      unfolding row_passes row_meant
      passes-no-kind h = rw (lt-ltb row.spec specs within, ne_eqb row.kind 0 no_name, ne_eqb row.kind 1 h)

      pub passes-object : (r : Bool) (t : Text) → row.kind ≡ 1 → t ≡ part_at s row.src.at row.src.len → r ≡ object_digits t → r ≡ row_passes specs (row_meant s row)
      unfolding row_passes row_meant
      passes-object r t h q e = e ∙ rw (q, lt-ltb row.spec specs within, ne_eqb row.kind 0 no_name, eq-eqb row.kind 1 h)
