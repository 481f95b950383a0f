-- A table of texts as entries: a frame, and the place and length of a name in the spec list.
use Rattle.std.specs.Prelude.{ℕ, ◌+◌, ◌≤◌, ◌<◌, ◌≡◌, cond, List, map, ltb, length, get_or, take}
use Rattle.meaning.specs.Bytes.{Text, bytes}
use Rattle.parse.specs.declared.types.Side.{Side}
use Rattle.parse.specs.declared.types.Side.TheVariants.{Absent, Part, Head}
use Rattle.parse.specs.Places.{part_at}
use Rattle.frames.specs.Frames.{candidate}
use Rattle.prefixes.specs.declared.entry.Entry.{Entry}
use Rattle.prefixes.specs.Distinct.{add_all}

-- the text of an entry: the name in its frame; a number past the last frame's is `HEAD`, which the list need not spell
unfoldable pub entry_text : Text → Entry → Text
entry_text specs e = cond (ltb e.frame 6) (candidate e.frame (part_at specs e.name.at e.name.len)) (bytes "HEAD")

-- an entry, written short
abbrev pub entry : ℕ → ℕ → ℕ → Entry
entry frame at len = record { frame = frame; name = record { at = at; len = len } }

-- what stands in a table where it has no entry, and what it is read as outside its bounds
abbrev pub blank : Entry
blank = entry 0 0 0

-- the entry whose text is that of a side
abbrev pub side_entry : Side → Entry
side_entry Absent = blank
side_entry (Part at n) = entry 0 at n
side_entry Head = entry 6 0 0

-- the texts of entries
abbrev pub table_texts : Text → List Entry → List Text
table_texts specs l = map (entry_text specs) l

-- an entry's name stands within so many bytes
abbrev pub EntryWithin : ℕ → Entry → Type 0
EntryWithin size e = e.name.at + e.name.len ≤ size

-- the names of all entries do
pub record Entries (size : ℕ) (l : List Entry) : Type 0 where
  pub within : (i : ℕ) → i < length l → EntryWithin size (get_or l i blank)

-- the texts were entered after c entries of a table, each that it had not: it is another table now, of d entries
pub record Entered (specs : Text) (texts : List Text) (table : List Entry) (c : ℕ) (after : List Entry) (d : ℕ) : Type 0 where
  pub room : d ≤ length after
  pub entries : Entries (length specs) (take d after)
  pub holds : table_texts specs (take d after) ≡ add_all (table_texts specs (take c table)) texts
  pub most : d ≤ c + length texts
