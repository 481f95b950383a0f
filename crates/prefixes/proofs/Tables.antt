-- A table of texts: measuring all, writing all, looking for one, and entering one more. Assumes nothing.
use Prim.Native.Nat.{ℕ, suc, ◌+◌, ◌*◌, ◌≤◌, ◌<◌}
use native.Mathlib.Nat.{eq-or-lt_of_le}
use native.Mathlib.Numerals.{add-one}
use native.Mathlib.Omega.{arith}
use mathlib.Core.Path.{◌≡◌, sym, ap, ◌∙◌}
use mathlib.Core.Bool.{Bool, true, false}
use mathlib.Core.List.{List, [], ◌∷◌, ◌++◌, map-append}
use mathlib.Core.Logic.{◌⊎◌, inl, inr}
use mir.Val.{Fits}
use mir.Syntax.{w64}
use lib.ListN.{length, set, get_or, take, drop, length-append, length-set, drop_of_length-le}
use lib.Seq.{take-append_seam, take-suc-set, drop-cons, get_or-set_same, get_or-set_other, length-take-le}
use Rattle.std.proofs.lemmas.List.{get_or-take}
use Rattle.meaning.specs.Bytes.{Text, ◌or◌, any, same}
use Rattle.meaning.specs.Limits.{spec_list_bytes}
use Rattle.meaning.specs.Number.{text_bytes, record_bytes}
use Rattle.buffer.specs.Splice.{splice}
use Rattle.buffer.proofs.Splices.{splice-start}
use Rattle.buffer.proofs.Writing.{Writing, writing-room, writing_more, written-whole}
use Rattle.frames.proofs.Candidates.{record_adds}
use Rattle.prefixes.specs.declared.entry.Entry.{Entry}
use Rattle.prefixes.specs.Distinct.{add_new}
use Rattle.prefixes.specs.Group.{texts_most}
use Rattle.prefixes.specs.Table.{blank, entry_text, table_texts, EntryWithin, Entries, Entered}
use Rattle.prefixes.proofs.Texts.{entry-short}

-- ---- the texts of a table from an entry on

module _ (specs : Text) (l : List Entry) (i : ℕ) where
  -- that entry's, and those after it
  texts-next : i < length l → table_texts specs (drop i l) ≡ entry_text specs (get_or l i blank) ∷ table_texts specs (drop (i + 1) l)
  texts-next h = rw (add-one i) (ap (table_texts specs) (drop-cons l i blank h))

  -- none from the end on
  texts-none : length l ≤ i → table_texts specs (drop i l) ≡ []
  texts-none h = ap (table_texts specs) (drop_of_length-le l h)

  -- the same of their list
  list-next : i < length l → record_bytes (table_texts specs (drop i l)) ≡ text_bytes (entry_text specs (get_or l i blank)) ++ record_bytes (table_texts specs (drop (i + 1) l))
  unfolding record_bytes
  list-next h = rw (texts-next h)

  list-none : length l ≤ i → record_bytes (table_texts specs (drop i l)) ≡ []
  unfolding record_bytes
  list-none h = rw (texts-none h)

-- ---- an entry of a table

module _ (size : ℕ) (l : List Entry) (h : Entries size l) (i : ℕ) (k : i < length l) where
  -- its name stands within the list
  pub entry_in : (e : Entry) → e ≡ get_or l i blank → EntryWithin size e
  entry_in e q = rw q (h.within i k)

-- ---- the list of the texts

-- the texts are measured as far as entry i
pub record Measured (specs : Text) (l : List Entry) (size i : ℕ) : Type 0 where
  pub count : i ≤ length l
  pub small : size ≤ (spec_list_bytes + record_adds) * i
  pub whole : size + length (record_bytes (table_texts specs (drop i l))) ≡ length (record_bytes (table_texts specs l))

-- nothing is measured at the start
pub measured-starts : (specs : Text) (l : List Entry) → Measured specs l 0 0
measured-starts specs l = record { count = omega arith; small = omega arith; whole = omega arith }

module _ (specs : Text) (l : List Entry) (size i : ℕ) (m : Measured specs l size i) where
  module _ (k : i < length l) (h : Entries (length specs) l) (few : length specs ≤ spec_list_bytes) (e : Entry) (q : e ≡ get_or l i blank) (r : ℕ) (er : r ≡ length (text_bytes (entry_text specs e))) where
    short : r ≤ spec_list_bytes + record_adds
    short = omega (arith, er, entry-short specs e (entry_in (length specs) l h i k e q))

    -- one more text
    pub measured-more : Measured specs l (size + r) (i + 1)
    measured-more =
        let f : r ≡ length (text_bytes (entry_text specs (get_or l i blank))) = rw (← q) er in
        record {
          count = omega arith;
          small = omega (arith, m.small, short);
          whole = omega (arith, m.whole, f, ap length (list-next specs l i k), length-append (text_bytes (entry_text specs (get_or l i blank))) (record_bytes (table_texts specs (drop (i + 1) l))));
        }

    -- whose sum a machine's number holds
    pub measured-fits : length l ≤ texts_most → Fits w64 (size + r)
    measured-fits n = omega (arith, m.small, short)

  -- after the last all is measured
  pub measured-whole : length l ≤ i → size ≡ length (record_bytes (table_texts specs l))
  measured-whole h = omega (arith, m.whole, ap length (list-none specs l i h))

-- the texts are written as far as entry i
pub record Listed (d specs : Text) (l : List Entry) (out : Text) (at i : ℕ) : Type 0 where
  pub count : i ≤ length l
  pub writing : Writing d 0 (record_bytes (table_texts specs l)) out at (record_bytes (table_texts specs (drop i l)))

module _ (d specs : Text) (l : List Entry) (out : Text) (at i : ℕ) (m : Listed d specs l out at i) where
  module _ (k : i < length l) (e : Entry) (q : e ≡ get_or l i blank) where
    pieces : record_bytes (table_texts specs (drop i l)) ≡ text_bytes (entry_text specs e) ++ record_bytes (table_texts specs (drop (i + 1) l))
    pieces = rw q (list-next specs l i k)

    -- the next text has room
    pub listed-room : at + length (text_bytes (entry_text specs e)) ≤ length out
    listed-room = writing-room d 0 (record_bytes (table_texts specs l)) out at (record_bytes (table_texts specs (drop i l))) m.writing (text_bytes (entry_text specs e)) (record_bytes (table_texts specs (drop (i + 1) l))) pieces

    -- one more text
    pub listed_more : (next : Text) (j : ℕ) → next ≡ splice out at (text_bytes (entry_text specs e)) → j ≡ at + length (text_bytes (entry_text specs e)) → Listed d specs l next j (i + 1)
    listed_more next j p r = record {
      count = omega arith;
      writing = writing_more d 0 (record_bytes (table_texts specs l)) out at (record_bytes (table_texts specs (drop i l))) m.writing (text_bytes (entry_text specs e)) (record_bytes (table_texts specs (drop (i + 1) l))) pieces next j p r;
    }

  -- after the last all is written
  pub listed-put : length l ≤ i → out ≡ splice d 0 (record_bytes (table_texts specs l))
  listed-put h = written-whole d 0 (record_bytes (table_texts specs l)) out at (record_bytes (table_texts specs (drop i l))) m.writing (list-none specs l i h)

-- ---- whether a text stands in a table

-- those that are left tell whether it does
pub record Looked (specs : Text) (l : List Entry) (t : Text) (i : ℕ) : Type 0 where
  pub left : any (same t) (table_texts specs (drop i l)) ≡ any (same t) (table_texts specs l)

module _ (specs : Text) (l : List Entry) (t : Text) (i : ℕ) (m : Looked specs l t i) where
  module _ (k : i < length l) (e : Entry) (q : e ≡ get_or l i blank) (r : Bool) (er : r ≡ same t (entry_text specs e)) where
    turn : (r or any (same t) (table_texts specs (drop (i + 1) l))) ≡ any (same t) (table_texts specs l)
    turn = rw (er, q) (ap (any (same t)) (sym (texts-next specs l i k)) ∙ m.left)

-- ---- one entry more

-- a text that was written at the start of a buffer
module _ (d s o : Text) (n : ℕ) (eo : o ≡ splice d 0 s) (en : n ≡ length s) where
  -- is its first bytes
  spelt : take n o ≡ s
  spelt = rw (eo, en, splice-start d s) (take-append_seam s (drop (length s) d))

  -- as many as there are
  pub spelt-taken : n ≡ length (take n o)
  spelt-taken = en ∙ ap length (sym spelt)

  -- within the buffer
  pub spelt-within : n ≤ length o
  spelt-within = omega (arith, en, ap length eo, ap length (splice-start d s), length-append s (drop (length s) d))

module _ (table : List Entry) (c : ℕ) (e : Entry) (room : c < length table) (after : List Entry) (is : after ≡ set table c e) where
  -- the entries with it
  entries-more : take (c + 1) after ≡ take c table ++ (e ∷ [])
  entries-more = rw (is, add-one c) (take-suc-set table c e room)

  texts-more : (specs : Text) → table_texts specs (take (c + 1) after) ≡ table_texts specs (take c table) ++ (entry_text specs e ∷ [])
  texts-more specs = ap (table_texts specs) entries-more ∙ map-append (entry_text specs) (take c table) (e ∷ [])

  -- they stand within the list
  one_more : (size : ℕ) → Entries size (take c table) → EntryWithin size e → Entries size (take (c + 1) after)
  one_more size h w = record { within = λ i l. go i (rw (length-take-le (c + 1) after (omega (arith, ap length is, length-set table c e))) at l) }
    where
      old : (i : ℕ) → i < c → EntryWithin size (get_or (set table c e) i blank)
      old i k =
          let n : i < length (take c table) = omega (arith, length-take-le c table (omega arith)) in
          let g : get_or (take c table) i blank ≡ get_or table i blank = get_or-take c table i blank k in
          let s : get_or (set table c e) i blank ≡ get_or table i blank = get_or-set_other table c i e blank (λ q. omega arith) in
          rw (s ∙ sym g) (h.within i n)

      go : (i : ℕ) → i < c + 1 → EntryWithin size (get_or (take (c + 1) after) i blank)
      go i l = rw (get_or-take (c + 1) after i blank l, is) (last (eq-or-lt_of_le l))
        where
          last : (suc i ≡ c + 1) ⊎ (suc i < c + 1) → EntryWithin size (get_or (set table c e) i blank)
          last (inl q) = let k : i ≡ c = omega arith in rw (k, get_or-set_same table c e blank room) w
          last (inr k) = old i (omega arith)

-- a text that was spelt and looked for
module _ (specs : Text) (table : List Entry) (c : ℕ) (h : Entries (length specs) (take c table)) (room : c < length table) (e : Entry) (d o : Text) (n : ℕ) (eo : o ≡ splice d 0 (entry_text specs e)) (en : n ≡ length (entry_text specs e)) (b : Bool) (eb : b ≡ any (same (take n o)) (table_texts specs (take c table))) where
  known : any (same (entry_text specs e)) (table_texts specs (take c table)) ≡ b
  known = ap (λ (s : Text). any (same s) (table_texts specs (take c table))) (sym (spelt d (entry_text specs e) o n eo en)) ∙ sym eb

  -- one that is there is not entered again
  pub entered-none : b ≡ true → Entered specs (entry_text specs e ∷ []) table c table c
  unfolding add_new
  entered-none y = record { room = omega arith; entries = h; holds = rw (known ∙ y); most = omega arith }

  -- another is
  pub entered-one : b ≡ false → EntryWithin (length specs) e → (after : List Entry) → after ≡ set table c e → Entered specs (entry_text specs e ∷ []) table c after (c + 1)
  unfolding add_new
  entered-one y w after is = record {
    room = omega (arith, ap length is, length-set table c e);
    entries = one_more table c e room after is (length specs) h w;
    holds = rw (known ∙ y) (texts-more table c e room after is specs);
    most = omega arith;
  }
