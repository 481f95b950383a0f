-- Whether the source of a row is gone. Assumes nothing.
use mathlib.Core.Path.{◌≡◌, sym, ap, ◌∙◌}
use mathlib.Core.Bool.{Bool}
use mathlib.Core.List.{List, ◌++◌}
use Prim.Native.Nat.{ℕ, ◌+◌, ◌-◌, ◌≤◌}
use lib.ListN.{length, take, drop}
use lib.Seq.{take-append_seam}
use Rattle.meaning.specs.Bytes.{Text, or_empty}
use Rattle.buffer.specs.Splice.{splice}
use Rattle.buffer.proofs.Splices.{splice-start}
use Rattle.parse.proofs.Parts.{part_of}
use Rattle.parse.specs.Places.{Within}
use Rattle.parse.specs.declared.types.Side.{Side}
use Rattle.refspec.specs.Instructions.{side_text}
use Rattle.matcher.specs.declared.types.Filled.{Filled}
use Rattle.matcher.specs.declared.types.Lead.{Lead}
use Rattle.matcher.specs.declared.types.Lead.TheVariants as lead
use Rattle.matcher.specs.declared.types.RowText.{RowText}
use Rattle.matcher.specs.declared.types.RowText.TheVariants as row-text
use Rattle.matcher.specs.Matching.{led_text, filled_text, row_text_meant, RowTextWithin, FilledWithin}
use Rattle.negatives.specs.Negatives.{excluded_by}

-- a text at the front of a buffer is read back
module _ (d t o : Text) (n : ℕ) (size : n ≡ length t) (e : o ≡ splice d 0 t) where
  front : take n o ≡ t
  front = rw (size, e, splice-start d t) (take-append_seam t _)

  pub front_long : n ≡ length (take n o)
  front_long = size ∙ sym (ap length front)

  pub front-asked : (r : Bool) (specs : Text) (table : List ℕ) (count : ℕ) → r ≡ excluded_by specs table count (take n o) → r ≡ excluded_by specs table count t
  front-asked r specs table count h = h ∙ ap (excluded_by specs table count) front

-- the source of a row
module _ (specs name : Text) (table : List ℕ) (count : ℕ) (source : RowText) where
  pub name-asked : source ≡ row-text.Name → (r : Bool) → r ≡ excluded_by specs table count name → r ≡ excluded_by specs table count (or_empty (row_text_meant specs name source))
  name-asked e r h = rw e h

  pub filled-asked : (f : Filled) → source ≡ row-text.Filled f → (r : Bool) → r ≡ excluded_by specs table count (filled_text specs name f) → r ≡ excluded_by specs table count (or_empty (row_text_meant specs name source))
  filled-asked f e r h = rw e h

  pub led-asked : (l : Lead) (s : Side) → source ≡ row-text.Led l s → (r : Bool) → r ≡ excluded_by specs table count (led_text l (side_text specs s)) → r ≡ excluded_by specs table count (or_empty (row_text_meant specs name source))
  led-asked l s e r h = rw e h

  pub absent-asked : source ≡ row-text.Absent → (r : Bool) → r ≡ excluded_by specs table count (take 0 (drop 0 specs)) → r ≡ excluded_by specs table count (or_empty (row_text_meant specs name source))
  absent-asked e r h = rw e h

-- a side that is not led, as it is lent
pub side-asked : (specs t u : Text) (table : List ℕ) (count : ℕ) (l : Lead) → l ≡ lead.AsIs → u ≡ t → (r : Bool) → r ≡ excluded_by specs table count u → r ≡ excluded_by specs table count (led_text l t)
side-asked specs t u table count l e f r h = rw e (rw f at h)

-- the pieces of a pattern as they are lent
pub pieces-asked : (specs name : Text) (table : List ℕ) (count : ℕ) (f : Filled) (r : Bool)
    → r ≡ excluded_by specs table count (take (f.start + f.start_len - f.start) (drop f.start specs) ++ (take (f.from + f.len - f.from) (drop f.from name) ++ take (f.end + f.end_len - f.end) (drop f.end specs)))
    → r ≡ excluded_by specs table count (filled_text specs name f)
pieces-asked specs name table count f r h = rw (part_of specs f.start f.start_len, part_of name f.from f.len, part_of specs f.end f.end_len) at h

pub filled_within : (source : RowText) (f : Filled) → source ≡ row-text.Filled f → (n k : ℕ) → RowTextWithin n k source → FilledWithin n k f
filled_within source f e n k w = rw e at w

pub led-within : (source : RowText) (l : Lead) (s : Side) → source ≡ row-text.Led l s → (n k : ℕ) → RowTextWithin n k source → Within n s
led-within source l s e n k w = rw e at w

pub led-fits : (specs name : Text) (source : RowText) (l : Lead) (s : Side) → source ≡ row-text.Led l s → (n : ℕ) → length (or_empty (row_text_meant specs name source)) ≤ n → length (led_text l (side_text specs s)) ≤ n
led-fits specs name source l s e n h = rw e at h
