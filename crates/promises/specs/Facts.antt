-- What the definitions come to, where a definition says it by a walk.
use Rattle.std.specs.Prelude.{ℕ, zero, suc, ◌+◌, ◌-◌, ◌*◌, ◌^◌, ◌≤◌, ◌<◌, ◌≡◌, ◌↔◌, Bool, true, false, not, List, [], ◌∷◌, ◌++◌, map, ltb, length}
use Rattle.std.proofs.Math.Option.{some}
use Rattle.meaning.specs.Bytes.{Text, bytes, ◌or◌, every, byte, colon, has_byte, begins, present, or_empty, in_order, In, Ascending}
use Rattle.meaning.specs.Limits.{mapped_bytes, row_list_bytes, spec_count, item_count, decimal_digits}
use Rattle.meaning.specs.Spec.{Answer, accepted, Spec, is_negative, one, two, sides_of, read_spec}
use Rattle.meaning.specs.Prefix.{GroupPrefixes}
use Rattle.meaning.specs.Number.{record_bytes, Reader}
use Rattle.meaning.specs.Lists.{record_then, records_from, spec_record, item_record, read_specs, read_items}
use Rattle.meaning.specs.Rows.{Row, row_list_of, row_record, read_rows}
use Rattle.meaning.specs.Match.{object_source, capture}
use Rattle.meaning.specs.Listing.{forward_rows, reverse_rows}
use Rattle.meaning.specs.Validation.{ConflictSource, row_source, Conflict, conflicts}
use Rattle.meaning.specs.Entries.{match_lhs, match_rhs}
use Rattle.meaning.specs.View.{nth, Part, source_view, part_text}
use Rattle.meaning.specs.Deliveries.{decimal}
use Rattle.promises.specs.Terms.{no_plus}

-- a text splits at its last colon, and only there
pub record LastColon : Type 0 where
  pub no-colon : (t : Text) → has_byte colon t ≡ false → sides_of t ≡ one t
  pub at_last : (s t : Text) → has_byte colon t ≡ false → sides_of (s ++ (colon ∷ t)) ≡ two s t
  pub one-is : (t u : Text) → sides_of t ≡ one u → (t ≡ u) × (has_byte colon t ≡ false)
  pub two_is : (t s u : Text) → sides_of t ≡ two s u → (t ≡ s ++ (colon ∷ u)) × (has_byte colon u ≡ false)

-- a name has a capture exactly when it is the start, the capture and the end
abbrev pub CaptureExactly : Type 0
CaptureExactly = (a b name c : Text) → (capture a b name ≡ some c) ↔ (name ≡ a ++ (c ++ b))

-- texts in order ascend: each comes before all that follow, so none stands twice
abbrev pub OrderAscends : Type 0
OrderAscends = (l : List Text) → Ascending (in_order l)

-- conflicts come in byte order of destination, each destination once
abbrev pub ConflictsAscend : Type 0
ConflictsAscend = (rows : List Row) → Ascending (map (λ (c : Conflict). c.destination) (conflicts rows))

-- no two of the sources are one: their kinds or their bytes differ
abbrev pub Distinct : List ConflictSource → Type 0
Distinct [] = Unit {0}
Distinct (s ∷ l) = ((t : ConflictSource) → In t l → (s.kind ≡ t.kind) × (s.name ≡ t.name) → ⊥) × Distinct l

-- a conflict lists exactly the sources of the rows with its destination, each once, and two at least
pub record SourcesExactly (rows : List Row) (c : Conflict) : Type 0 where
  pub all : (r : Row) → In r rows → r.destination ≡ some c.destination → (s : ConflictSource) × In s c.sources × (s.kind ≡ r.kind) × (s.name ≡ r.source)
  pub only : (s : ConflictSource) → In s c.sources → (r : Row) × In r rows × (r.destination ≡ some c.destination) × (row_source r ≡ s)
  pub once : Distinct c.sources
  pub two : 2 ≤ length c.sources

-- every conflict does
abbrev pub ConflictSources : Type 0
ConflictSources = (rows : List Row) (c : Conflict) → In c (conflicts rows) → SourcesExactly rows c

-- every group has a prefix list
abbrev pub PrefixListThere : Type 0
PrefixListThere = (op : ℕ) (group : List Spec) → (list : List Text) × GroupPrefixes op group list

-- the records of a text from number i on
unfoldable pub records : {B : Type 0} → (ℕ → Reader B) → ℕ → Text → Answer (List B)
records read i s = records_from read (length s) i s

-- a list is read record by record: none at its end, else one and then the records of what it leaves
pub record RecordByRecord {B : Type 0} (read : ℕ → Reader B) : Type 0 where
  pub at-end : (i : ℕ) → records read i [] ≡ accepted []
  pub next : (i x : ℕ) (s : Text) → records read i (x ∷ s) ≡ record_then i (read i (x ∷ s)) (λ rest. records read (suc i) rest)

-- all three lists are
abbrev pub ListsRecordByRecord : Type 0
ListsRecordByRecord = ((op : ℕ) → RecordByRecord (spec_record op)) × RecordByRecord item_record × ((specs : ℕ) → RecordByRecord (row_record specs))

-- a number of a row is small enough to be written
pub record RowFits (r : Row) : Type 0 where
  pub item-fits : r.item ≤ item_count
  pub spec-fits : r.spec < spec_count
  pub kind_fits : r.kind ≤ 1
  pub source_fits : length r.source ≤ mapped_bytes
  pub destination-fits : (d : Text) → r.destination ≡ some d → length d ≤ mapped_bytes

-- every row of either listing of lists that are read fits, whatever the operation and however long the listing
abbrev pub RowNumbersFit : Type 0
RowNumbersFit =
    (op : ℕ) (specs items : Text) (group : List Spec) (names : List Text)
    → read_specs op specs ≡ accepted group
    → read_items items ≡ accepted names
    → ((r : Row) → In r (forward_rows group names) → RowFits r) × ((r : Row) → In r (reverse_rows group names) → RowFits r)

-- the number that digits spell, after those before them
abbrev pub spelled_after : ℕ → Text → ℕ
spelled_after n [] = n
spelled_after n (x ∷ s) = spelled_after (n * 10 + (x - byte "0")) s

-- a printed number spells itself
abbrev pub DecimalReads : Type 0
DecimalReads = (n : ℕ) → n < 10 ^ decimal_digits → spelled_after 0 (decimal n) ≡ n

-- the listing entries answer the bytes of the rows
abbrev pub RowsAnswered : Type 0
RowsAnswered =
    (op : ℕ) (specs items : Text) (group : List Spec) (names : List Text)
    → read_specs op specs ≡ accepted group
    → read_items items ≡ accepted names
    → (match_lhs op specs items ≡ accepted (some (row_list_of (forward_rows group names)) ∷ [])) × (match_rhs op specs items ≡ accepted (some (row_list_of (reverse_rows group names)) ∷ []))

-- what a view of field 0 or of an item hands back: the digits as the spec spells them, or the item's name
abbrev pub Viewed : List Spec → List Text → ℕ → ℕ → Text → Type 0
Viewed group names zero i t = (s : Spec) × (nth group i ≡ some s) × (object_source s ≡ some t)
Viewed group names (suc j) i t = nth names j ≡ some t

-- the part of a view that is accepted has those bytes
abbrev pub ViewSpells : Type 0
ViewSpells =
    (op : ℕ) (specs items : Text) (field i : ℕ) (p : Part) (group : List Spec) (names : List Text)
    → read_specs op specs ≡ accepted group
    → read_items items ≡ accepted names
    → source_view op specs items field i ≡ accepted p
    → Viewed group names field i (part_text p specs items)

-- a byte is below 256
abbrev pub is_byte : ℕ → Bool
is_byte b = ltb b 256

-- each text is read as the spec in its place
abbrev pub EachRead : ℕ → List Text → List Spec → Type 0
EachRead op [] [] = Unit {0}
EachRead op [] (s ∷ group) = ⊥
EachRead op (t ∷ texts) [] = ⊥
EachRead op (t ∷ texts) (s ∷ group) = (read_spec op t ≡ accepted s) × EachRead op texts group

-- an item list or a row list that is read is the bytes of what it is read as: each has one spelling; and a spec list that is read is the
-- bytes of texts, each of which is read as the spec in its place
abbrev pub OneSpelling : Type 0
OneSpelling =
    ((s : Text) (names : List Text) → every is_byte s ≡ true → read_items s ≡ accepted names → s ≡ record_bytes names)
    × ((specs : ℕ) (s : Text) (rows : List Row) → every is_byte s ≡ true → read_rows specs s ≡ accepted rows → s ≡ row_list_of rows)
    × ((op : ℕ) (s : Text) (group : List Spec) → every is_byte s ≡ true → read_specs op s ≡ accepted group → (texts : List Text) × (s ≡ record_bytes texts) × EachRead op texts group)

-- the numbers that validation writes of a row that was read under so many specs
pub record ReadRowFits (specs : ℕ) (r : Row) : Type 0 where
  pub spec-fits : r.spec < specs
  pub kind_fits : r.kind ≤ 1
  pub source_fits : length r.source < row_list_bytes
  pub destination-fits : (d : Text) → r.destination ≡ some d → length d < row_list_bytes

-- every row of a row list fits, and there are fewer rows than a number can count
abbrev pub ReadRowsFit : Type 0
ReadRowsFit =
    (specs : ℕ) (s : Text) (rows : List Row)
    → every is_byte s ≡ true
    → read_rows specs s ≡ accepted rows
    → ((r : Row) → In r rows → ReadRowFits specs r) × (length rows ≤ row_list_bytes)

-- the exception of demand 3 and of document 02, W13, in the words of document 01: a fetch-only spec "is not negative and has no destination"
abbrev pub NoPlusByTheSpec : Type 0
NoPlusByTheSpec = (s : Spec) → no_plus s ≡ (is_negative s.mode or present s.destination or not (begins (bytes "+") (or_empty s.source)))
