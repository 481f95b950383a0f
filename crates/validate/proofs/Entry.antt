-- A row list as a whole: what it is read as, its conflicts or its kept rows and fixes, and how they meet the buffers. Assumes nothing.
use mathlib.Core.Path.{◌≡◌, refl, sym, ap, ◌∙◌}
use mathlib.Core.List.{List, [], ◌∷◌}
use mathlib.Core.Option.{Option, none, some}
use Prim.Native.Nat.{ℕ, ◌≤◌, ◌<◌}
use native.Mathlib.Omega.{arith}
use lib.ListN.{length}
use Rattle.meaning.specs.Bytes.{Text, keep, each}
use Rattle.meaning.specs.Spec.{Spec, accepted, refused}
use Rattle.meaning.specs.Lists.{read_specs}
use Rattle.meaning.specs.Rows.{Row, row_list_of, read_rows}
use Rattle.meaning.specs.Validation.{Conflict, conflicts, conflict_bytes, is_kept, fix_of, fix_bytes, pass_unless, verdict}
use Rattle.meaning.specs.Buffers.{MeetsTwo}
use Rattle.meaning.specs.Entries.{verdict_on, verdict_bytes, validated}
use Rattle.promises.proofs.Buffers.{meets-two-refused, meets-two-short-first, meets-two-short-second, meets-two-conflicts, meets-two-passes}
use Rattle.buffer.specs.Splice.{splice}
use Rattle.buffer.proofs.Splices.{splice-start}
use Rattle.std.specs.Prelude.{Result, Ok, Err}
use Rattle.refusal.specs.Numbers.{number_of}
use Rattle.list.specs.declared.refused.Refused.{Refused}
use Rattle.list.specs.Checked.{numbers_of, checked}
use Rattle.list.proofs.Told.{Passed, specs-passed, specs-failed, rows-passed, rows-failed}
use Rattle.row_list.specs.Lists.{rows_in, RowsRead}
use Rattle.conflicts.specs.ConflictBytes.{conflicts_bytes, put_if_room}
use Rattle.conflicts.proofs.Wholes.{no_bytes, none-put, short-left, whole-put, bytes-exactly}
use Rattle.validate.specs.declared.Validation.{Validation}
use Rattle.validate.specs.Answers.{nothing_told, validation_refused, short_of}

-- rows that were judged by the size of their conflicts
module _ (rows : List Row) (size : ℕ) (es : size ≡ length (conflicts_bytes rows)) where
  pub size_none : size ≡ 0 → conflicts rows ≡ []
  size_none z = (bytes-exactly rows).0 (no_bytes (conflicts_bytes rows) (sym es ∙ z))

  -- without conflicts the buffer is as it was
  pub calm-told : size ≡ 0 → (d o : Text) → o ≡ put_if_room d (conflicts_bytes rows) → (f p q : Text) (w t m u v b : ℕ) → MeetsTwo (accepted (verdict_bytes (verdict rows))) o f p q w t m u v b → MeetsTwo (accepted (verdict_bytes (verdict rows))) d f p q w t m u v b
  calm-told z d o eo f p q w t m u v b k = let g : d ≡ o = none-put rows size es d z ∙ sym eo in rw g k

  module _ (some-there : size ≡ 0 → ⊥) where
    conflicting-bytes : verdict_bytes (verdict rows) ≡ some (conflicts_bytes rows) ∷ none ∷ []
    unfolding verdict conflicts_bytes
    conflicting-bytes = go (conflicts rows) refl
      where
        go : (l : List Conflict) → conflicts rows ≡ l → verdict_bytes (pass_unless rows l) ≡ some (each l conflict_bytes) ∷ none ∷ []
        go [] e = absurd (some-there (es ∙ ap (λ (l : List Conflict). length (each l conflict_bytes)) e))
        go (c ∷ l) e = refl

    module _ (d f o : Text) (eo : o ≡ put_if_room d (conflicts_bytes rows)) where
      pub conflicts-short : length d < size → (w : Validation) → w ≡ short_of 1 size → MeetsTwo (accepted (verdict_bytes (verdict rows))) d f o f w.refusal w.«record» w.conflicts w.length w.fixes_length w.buffer
      conflicts-short h w e =
          let q : o ≡ d = eo ∙ sym (short-left rows size es d h) in
          rw (q, e) (meets-two-short-first (accepted (verdict_bytes (verdict rows))) d f d f (conflicts_bytes rows) none 17 0 0 size 0 1 (ap accepted conflicting-bytes) (omega (arith, es)) refl refl refl refl refl es refl refl)

      pub conflicts-told : size ≤ length d → (n : Validation) → n ≡ nothing_told → MeetsTwo (accepted (verdict_bytes (verdict rows))) d f o f n.refusal n.«record» 1 size n.fixes_length n.buffer
      conflicts-told h n e =
          let q : o ≡ splice d 0 (conflicts_bytes rows) = eo ∙ sym (whole-put rows size es d h (splice d 0 (conflicts_bytes rows)) refl) in
          rw e (meets-two-conflicts (accepted (verdict_bytes (verdict rows))) d f o f (conflicts_bytes rows) 0 0 1 size 0 0 (ap accepted conflicting-bytes) (omega (arith, es)) (q ∙ splice-start d (conflicts_bytes rows)) refl refl refl refl es refl refl)

-- rows without conflicts
module _ (rows : List Row) (calm : conflicts rows ≡ []) where
  passing-bytes : verdict_bytes (verdict rows) ≡ some (row_list_of (keep is_kept rows)) ∷ some (each (each rows fix_of) fix_bytes) ∷ []
  unfolding verdict
  passing-bytes = rw calm

  module _ (d f : Text) (kept fixed : ℕ) (ek : kept ≡ length (row_list_of (keep is_kept rows))) (ef : fixed ≡ length (each (each rows fix_of) fix_bytes)) where
    pub kept-short : length d < kept → (w : Validation) → w ≡ short_of 1 kept → MeetsTwo (accepted (verdict_bytes (verdict rows))) d f d f w.refusal w.«record» w.conflicts w.length w.fixes_length w.buffer
    kept-short h w e =
        rw e (meets-two-short-first (accepted (verdict_bytes (verdict rows))) d f d f (row_list_of (keep is_kept rows)) (some (each (each rows fix_of) fix_bytes)) 17 0 0 kept 0 1 (ap accepted passing-bytes) (omega (arith, ek)) refl refl refl refl refl ek refl refl)

    module _ (h : kept ≤ length d) where
      pub fixes-short : length f < fixed → (w : Validation) → w ≡ short_of 2 fixed → MeetsTwo (accepted (verdict_bytes (verdict rows))) d f d f w.refusal w.«record» w.conflicts w.length w.fixes_length w.buffer
      fixes-short g w e =
          rw e (meets-two-short-second (accepted (verdict_bytes (verdict rows))) d f d f (row_list_of (keep is_kept rows)) (each (each rows fix_of) fix_bytes) 17 0 0 fixed 0 2 (ap accepted passing-bytes) (omega (arith, ek)) (omega (arith, ef)) refl refl refl refl refl ef refl refl)

    pub passes-told : length (row_list_of (keep is_kept rows)) ≤ length d → length (each (each rows fix_of) fix_bytes) ≤ length f → (o p : Text) → o ≡ splice d 0 (row_list_of (keep is_kept rows)) → p ≡ splice f 0 (each (each rows fix_of) fix_bytes) → (n : Validation) → n ≡ nothing_told → MeetsTwo (accepted (verdict_bytes (verdict rows))) d f o p n.refusal n.«record» n.conflicts kept fixed n.buffer
    passes-told h g o p eo ep n e =
        rw e (meets-two-passes (accepted (verdict_bytes (verdict rows))) d f o p (row_list_of (keep is_kept rows)) (each (each rows fix_of) fix_bytes) 0 0 0 kept fixed 0 (ap accepted passing-bytes) h g
        (eo ∙ splice-start d (row_list_of (keep is_kept rows))) (ep ∙ splice-start f (each (each rows fix_of) fix_bytes)) refl refl refl ek ef refl)

-- what the lists are read as
specs-turned : (op : ℕ) (specs rows : Text) (n : ℕ) (r : Option ℕ) → read_specs op specs ≡ refused n r → validated op specs rows ≡ refused n r
unfolding validated verdict_on
specs-turned op specs rows n r e = rw e

rows-turned : (op : ℕ) (specs rows : Text) (group : List Spec) (n : ℕ) (r : Option ℕ) → read_specs op specs ≡ accepted group → read_rows (length group) rows ≡ refused n r → validated op specs rows ≡ refused n r
unfolding validated verdict_on
rows-turned op specs rows group n r e f = rw (e, f)

both_read : (op : ℕ) (specs rows : Text) (group : List Spec) (list : List Row) → read_specs op specs ≡ accepted group → read_rows (length group) rows ≡ accepted list → validated op specs rows ≡ accepted (verdict_bytes (verdict list))
unfolding validated verdict_on
both_read op specs rows group list e f = rw (e, f)

module _ (op : ℕ) (specs rows d f : Text) (g : Result ℕ Refused) (eg : numbers_of g ≡ checked (read_specs op specs)) where
  pub specs-refused : (x : Refused) → g ≡ Err x → (w : Validation) → w ≡ validation_refused x → MeetsTwo (validated op specs rows) d f d f w.refusal w.«record» w.conflicts w.length w.fixes_length w.buffer
  specs-refused x z w e =
      let q = specs-failed op specs g eg x z in
      rw e (meets-two-refused (validated op specs rows) d f d f (number_of x.refusal) q.carried (number_of x.refusal) x.«record» 0 0 0 0 (specs-turned op specs rows (number_of x.refusal) q.carried q.answer) refl refl refl q.number refl refl refl refl)

  module _ (n : ℕ) (zg : g ≡ Ok n) (c : Result ℕ Refused) (ec : numbers_of c ≡ checked (read_rows n rows)) where
    specs-read : Passed (read_specs op specs) n
    specs-read = specs-passed op specs g eg n zg

    pub rows-refused : (x : Refused) → c ≡ Err x → (w : Validation) → w ≡ validation_refused x → MeetsTwo (validated op specs rows) d f d f w.refusal w.«record» w.conflicts w.length w.fixes_length w.buffer
    rows-refused x z w e =
        let q = rows-failed n rows c ec x z in
        let a : read_rows (length specs-read.members) rows ≡ refused (number_of x.refusal) q.carried = rw (← specs-read.counted) q.answer in
        rw e
        (meets-two-refused (validated op specs rows) d f d f (number_of x.refusal) q.carried (number_of x.refusal) x.«record» 0 0 0 0
        (rows-turned op specs rows specs-read.members (number_of x.refusal) q.carried specs-read.answer a) refl refl refl q.number refl refl refl refl)

    pub rows-judged : (k : ℕ) → c ≡ Ok k → (o p : Text) (w t m u v b : ℕ) → MeetsTwo (accepted (verdict_bytes (verdict (rows_in n rows)))) d f o p w t m u v b → MeetsTwo (validated op specs rows) d f o p w t m u v b
    rows-judged i z o p w t m u v b k =
        let q = rows-passed n rows c ec i z in
        let a : read_rows (length specs-read.members) rows ≡ accepted q.members = rw (← specs-read.counted) q.answer in
        let r : rows_in n rows ≡ q.members = rw q.answer in
        rw (both_read op specs rows specs-read.members q.members specs-read.answer a, ← r) k

module _ (n : ℕ) (rows : Text) (c : Result ℕ Refused) (e : numbers_of c ≡ checked (read_rows n rows)) (k : ℕ) (z : c ≡ Ok k) where
  pub rows-counted : k ≡ length (rows_in n rows)
  rows-counted = let q = rows-passed n rows c e k z in q.counted ∙ rw q.answer

  pub rows-read : RowsRead n rows
  rows-read = let q = rows-passed n rows c e k z in record { list = q.members; reads = q.answer }
