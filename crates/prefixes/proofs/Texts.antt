-- The text of one entry, by the branches of the code: a candidate, or `HEAD`. Assumes nothing.
use Prim.Native.Nat.{ℕ, ◌+◌, ◌≤◌, ◌<◌}
use native.Mathlib.Omega.{arith}
use mathlib.Core.Path.{◌≡◌, refl}
use mathlib.Core.Bool.{Bool, true, false}
use mathlib.Core.List.{◌∷◌}
use borrow.Author.Tests.{lt-ltb, le-ltb, ltb-true, ltb-false}
use lib.Dec.{ltb}
use lib.ListN.{length}
use Rattle.meaning.specs.Bytes.{Text, bytes, same}
use Rattle.meaning.specs.Limits.{spec_list_bytes}
use Rattle.meaning.specs.Number.{number_bytes, text_bytes}
use Rattle.buffer.specs.Splice.{splice}
use Rattle.parse.specs.Places.{part_at}
use Rattle.parse.proofs.Parts.{part_length}
use Rattle.frames.specs.Frames.{candidate, longest_frame}
use Rattle.frames.proofs.Candidates.{candidate-short, record_adds, record-short}
use Rattle.prefixes.specs.declared.entry.Entry.{Entry}
use Rattle.prefixes.specs.Table.{entry_text, EntryWithin}

-- `HEAD` as a record is five bytes
head-record : text_bytes (bytes "HEAD") ≡ 4 ∷ bytes "HEAD"
unfolding text_bytes number_bytes
head-record = refl

module _ (specs : Text) (e : Entry) where
  module _ (h : e.frame < 6) (name : Text) (is : name ≡ part_at specs e.name.at e.name.len) where
    -- a candidate's number
    framed : entry_text specs e ≡ candidate e.frame name
    unfolding entry_text
    framed = rw (lt-ltb e.frame 6 h, is)

    -- its size
    pub framed-size : (r : ℕ) → r ≡ length (text_bytes (candidate e.frame name)) → r ≡ length (text_bytes (entry_text specs e))
    framed-size r q = rw framed q

    -- its name is no longer than the list
    pub framed-name : EntryWithin (length specs) e → length specs ≤ spec_list_bytes → length name ≤ spec_list_bytes
    framed-name w f = rw is (omega (arith, part_length specs e.name.at e.name.len w))

    module _ (d : Text) (i : ℕ) where
      -- its record has room
      pub framed-room : i + length (text_bytes (entry_text specs e)) ≤ length d → i + length (text_bytes (candidate e.frame name)) ≤ length d
      framed-room f = rw framed at f

      -- is written
      pub framed-put : (o : Text) → o ≡ splice d i (text_bytes (candidate e.frame name)) → o ≡ splice d i (text_bytes (entry_text specs e))
      framed-put o q = rw framed q

      -- and ends there
      pub framed-ends : (r : ℕ) → r ≡ i + length (text_bytes (candidate e.frame name)) → r ≡ i + length (text_bytes (entry_text specs e))
      framed-ends r q = rw framed q

    -- its text has room
    pub framed-spell-room : (d : Text) → EntryWithin (length specs) e → length specs + longest_frame ≤ length d → 0 + length (candidate e.frame name) ≤ length d
    framed-spell-room d w f = rw is (omega (arith, candidate-short (part_at specs e.name.at e.name.len) e.frame h, part_length specs e.name.at e.name.len w))

    -- is written
    pub framed-spelt : (d o : Text) → o ≡ splice d 0 (candidate e.frame name) → o ≡ splice d 0 (entry_text specs e)
    framed-spelt d o q = rw framed q

    -- and has as many bytes
    pub framed-length : (r : ℕ) → r ≡ 0 + length (candidate e.frame name) → r ≡ length (entry_text specs e)
    framed-length r q = rw framed (omega arith)

    -- is asked for
    pub framed-same : (t : Text) (r : Bool) → r ≡ same t (candidate e.frame name) → r ≡ same t (entry_text specs e)
    framed-same t r q = rw framed q

    -- and takes at most so many bytes more than the list
    framed-short : EntryWithin (length specs) e → length (text_bytes (entry_text specs e)) ≤ length specs + record_adds
    framed-short w = rw (framed, is) (omega (arith, record-short (part_at specs e.name.at e.name.len) e.frame h, part_length specs e.name.at e.name.len w))

  module _ (h : 6 ≤ e.frame) where
    -- a number past the last
    head : entry_text specs e ≡ bytes "HEAD"
    unfolding entry_text
    head = rw (le-ltb e.frame 6 h)

    -- its size
    pub head-size : 5 ≡ length (text_bytes (entry_text specs e))
    head-size = rw (head, head-record)

    module _ (d : Text) (i : ℕ) where
      -- its record has room
      pub head-room : i + length (text_bytes (entry_text specs e)) ≤ length d → i + length (4 ∷ bytes "HEAD") ≤ length d
      head-room f = rw (head, head-record) at f

      -- is written
      pub head-put : (o : Text) → o ≡ splice d i (4 ∷ bytes "HEAD") → o ≡ splice d i (text_bytes (entry_text specs e))
      head-put o q = rw (head, head-record) q

      -- and ends there
      pub head-ends : (r : ℕ) → r ≡ i + length (4 ∷ bytes "HEAD") → r ≡ i + length (text_bytes (entry_text specs e))
      head-ends r q = rw (head, head-record) q

    -- its text is written
    pub head-spelt : (d o : Text) → o ≡ splice d 0 (bytes "HEAD") → o ≡ splice d 0 (entry_text specs e)
    head-spelt d o q = rw head q

    -- and has four bytes
    pub head-length : (r : ℕ) → r ≡ 0 + length (bytes "HEAD") → r ≡ length (entry_text specs e)
    head-length r q = rw head (omega arith)

    -- is asked for
    pub head-same : (t : Text) (r : Bool) → r ≡ same t (bytes "HEAD") → r ≡ same t (entry_text specs e)
    head-same t r q = rw head q

  -- an entry's record takes at most so many bytes more than the list
  pub entry-short : EntryWithin (length specs) e → length (text_bytes (entry_text specs e)) ≤ length specs + record_adds
  entry-short w = go (ltb e.frame 6) refl
    where
      go : (b : Bool) → ltb e.frame 6 ≡ b → length (text_bytes (entry_text specs e)) ≤ length specs + record_adds
      go true h = framed-short (ltb-true e.frame 6 h) (part_at specs e.name.at e.name.len) refl w
      go false h = omega (arith, head-size (ltb-false e.frame 6 h))
