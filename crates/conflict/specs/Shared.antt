-- Places of rows that share a destination, and the bytes of their conflict.
use Rattle.std.specs.Prelude.{ℕ, ◌*◌, ◌≤◌, ◌≡◌, cond, List, [], ◌++◌, map, length, get_or}
use Rattle.meaning.specs.Bytes.{Text, or_empty}
use Rattle.meaning.specs.Number.{number_bytes, text_bytes}
use Rattle.meaning.specs.Rows.{Row}
use Rattle.meaning.specs.Validation.{rows_onto, in_conflict, conflict_on, conflict_bytes}
use Rattle.order.specs.Sorting.{Increasing, heads, firsts_by}
use Rattle.keys.specs.Keys.{row_at, same_at, source_key}
use Rattle.conflict.specs.declared.sources.HeadsSize.{HeadsSize}
use Rattle.conflict.specs.Sizes.{conflict_source_most}
use Rattle.conflict.specs.FirstSeen.{row_source_bytes, sources_bytes, listed_bytes}

-- the rows that begin at places
abbrev pub rows_at : Text → List ℕ → List Row
rows_at s l = map (row_at s) l

-- the destination of the row at a place
unfoldable pub destination_at : Text → ℕ → Text
destination_at s p = or_empty (row_at s p).destination

-- places of rows that share a destination, in place order
pub record OneRun (s : Text) (l : List ℕ) : Type 0 where
  pub shared : rows_onto (rows_at s l) (destination_at s (get_or l 0 0)) ≡ rows_at s l
  pub ascends : Increasing l

-- the bytes of the conflict on a destination, if it is in conflict
unfoldable pub conflict_part : List Row → Text → Text
conflict_part rows d = cond (in_conflict rows d) (conflict_bytes (conflict_on rows d)) []

-- the bytes of the conflict of rows that share a destination
unfoldable pub run_bytes : Text → List ℕ → Text
run_bytes s l = conflict_part (rows_at s l) (destination_at s (get_or l 0 0))

-- the bytes of the destination of rows at places, and of how many they are
unfoldable pub head_at : Text → List ℕ → Text
head_at s l = text_bytes (destination_at s (get_or l 0 0)) ++ number_bytes (length l)

-- the bytes of a destination with the rows at places, each source once
unfoldable pub listed_at : Text → List ℕ → Text
listed_at s l = listed_bytes (destination_at s (get_or l 0 0)) (rows_at s l)

-- the bytes of the source of the row at a place, and of the rows at places
unfoldable pub source_at : Text → ℕ → Text
source_at s p = row_source_bytes (row_at s p)

unfoldable pub sources_at : Text → List ℕ → Text
sources_at s l = sources_bytes (rows_at s l)

-- the places of rows that are the first of their source, by place
abbrev pub firsts_at : Text → List ℕ → List ℕ
firsts_at s l = firsts_by (same_at source_key s) l

-- how many places of a list sorted by source are the first of theirs, and how many bytes their sources take
pub record Heads (s : Text) (l : List ℕ) (h : HeadsSize) : Type 0 where
  pub count-is : h.count ≡ length (heads (same_at source_key s) l)
  pub count_small : h.count ≤ length l
  pub size_is : h.size ≡ length (sources_at s (heads (same_at source_key s) l))
  pub size_small : h.size ≤ length l * conflict_source_most
