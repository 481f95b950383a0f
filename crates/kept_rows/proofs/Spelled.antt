-- A row's bytes are those that stand in its list, so a kept row is copied. Assumes nothing.
use mathlib.Core.Path.{◌≡◌, refl, sym, ap, ◌∙◌}
use mathlib.Core.Bool.{Bool, true, false}
use mathlib.Core.List.{[], ◌++◌}
use mathlib.Core.Option.{Option, none, some}
use Prim.Native.Nat.{ℕ, ◌+◌, ◌-◌, ◌≤◌}
use native.Mathlib.Omega.{arith}
use lib.ListN.{length, take, drop, length-append, length-drop}
use lib.Seq.{take_at, get_or-drop}
use Rattle.meaning.specs.Bytes.{Text, each, if_given}
use Rattle.meaning.specs.Rows.{row_bytes}
use Rattle.meaning.specs.Validation.{is_full, is_kept, fix_by, fix_bytes}
use Rattle.promises.proofs.Spelling.{row-record-spelled}
use Rattle.buffer.specs.Splice.{splice}
use Rattle.buffer.proofs.Splices.{splice-none}
use Rattle.number.specs.Reading.{Octets}
use Rattle.parse.specs.Places.{side_meant}
use Rattle.row_fields.specs.declared.RowPlace.{RowPlace}
use Rattle.row_fields.specs.Fields.{row_meant}
use Rattle.row_list.specs.Rows.{RowTaken}
use Rattle.conflicts.proofs.Spelled.{all-bytes}
use Rattle.kept_rows.specs.Rows.{kept_bytes, fix_for, row_fix}

module _ (specs : ℕ) (s : Text) (at : ℕ) (row : RowPlace) (end : ℕ) (t : RowTaken specs s at row end) (octets : Octets s) where
  spelled : drop at s ≡ row_bytes (row_meant s row) ++ drop end s
  spelled = row-record-spelled specs 0 (drop at s) (row_meant s row) (drop end s) (all-bytes (drop at s) (λ i. rw (get_or-drop at s i 0) (octets (at + i)))) (t.reads 0)

  row-long : length (row_bytes (row_meant s row)) ≡ end - at
  row-long =
      let l : length s - at ≡ length (row_bytes (row_meant s row)) + (length s - end) = rw (← length-drop at s, ← length-drop end s) (ap length spelled ∙ length-append (row_bytes (row_meant s row)) (drop end s)) in
      omega (arith, t.on, t.within)

  stands : take (end - at) (drop at s) ≡ row_bytes (row_meant s row)
  stands = rw spelled (take_at (row_bytes (row_meant s row)) (drop end s) (end - at) row-long)

  module _ (b : Bool) (e : b ≡ if_given is_full (side_meant s row.dst)) (h : b ≡ true) where
    kept : kept_bytes (row_meant s row) ≡ row_bytes (row_meant s row)
    unfolding kept_bytes is_kept row_meant
    kept = rw (sym e ∙ h)

    pub kept-size : end - at ≡ length (kept_bytes (row_meant s row))
    kept-size = sym row-long ∙ ap length (sym kept)

    pub kept_small : end - at ≤ length s
    kept_small = omega (arith, t.within)

    module _ (d : Text) (to : ℕ) where
      pub kept-room : to + length (kept_bytes (row_meant s row)) ≤ length d → to + length (take (end - at) (drop at s)) ≤ length d
      kept-room k = rw (stands, ← kept) k

      pub kept_put : (o : Text) → o ≡ splice d to (take (end - at) (drop at s)) → o ≡ splice d to (kept_bytes (row_meant s row))
      kept_put o k = k ∙ ap (splice d to) (stands ∙ sym kept)

      pub kept-end : (r : ℕ) → r ≡ to + length (take (end - at) (drop at s)) → r ≡ to + length (kept_bytes (row_meant s row))
      kept-end r k = k ∙ ap (λ (x : Text). to + length x) (stands ∙ sym kept)

-- a row that is kept has no fix
module _ (s : Text) (row : RowPlace) (b : Bool) (e : b ≡ if_given is_full (side_meant s row.dst)) (h : b ≡ true) where
  no-fix : row_fix (row_meant s row) ≡ []
  unfolding row_fix fix_for row_meant
  no-fix = go (side_meant s row.dst) e
    where
      go : (o : Option Text) → b ≡ if_given is_full o → each (fix_by row.spec o) fix_bytes ≡ []
      go none f = refl
      go (some t) f = let q : is_full t ≡ true = sym f ∙ h in rw q

  pub no-fix-put : (d : Text) (to : ℕ) → d ≡ splice d to (row_fix (row_meant s row))
  no-fix-put d to = rw no-fix (sym (splice-none d to))

  pub no-fix-end : (to : ℕ) → to ≡ to + length (row_fix (row_meant s row))
  no-fix-end to = rw no-fix (omega arith)

-- the fix of a row, by its spec number and its destination
module _ (s : Text) (row : RowPlace) (d : Text) (to : ℕ) where
  pub fix-room : to + length (row_fix (row_meant s row)) ≤ length d → to + length (fix_for row.spec (side_meant s row.dst)) ≤ length d
  unfolding row_fix row_meant
  fix-room h = h

  pub fix-put : (o : Text) → o ≡ splice d to (fix_for row.spec (side_meant s row.dst)) → o ≡ splice d to (row_fix (row_meant s row))
  unfolding row_fix row_meant
  fix-put o h = h

  pub fix-end : (r : ℕ) → r ≡ to + length (fix_for row.spec (side_meant s row.dst)) → r ≡ to + length (row_fix (row_meant s row))
  unfolding row_fix row_meant
  fix-end r h = h

-- a row that goes out
module _ (s : Text) (row : RowPlace) (b : Bool) (e : b ≡ if_given is_full (side_meant s row.dst)) (h : b ≡ false) where
  gone : kept_bytes (row_meant s row) ≡ []
  unfolding kept_bytes is_kept row_meant
  gone = rw (sym e ∙ h)

  pub gone-size : 0 ≡ length (kept_bytes (row_meant s row))
  gone-size = rw gone

  pub gone-put : (d : Text) (to : ℕ) → d ≡ splice d to (kept_bytes (row_meant s row))
  gone-put d to = rw gone (sym (splice-none d to))

  pub gone-end : (to : ℕ) → to ≡ to + length (kept_bytes (row_meant s row))
  gone-end to = rw gone (omega arith)
