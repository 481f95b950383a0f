-- Demand 3. Its words are defined in Terms, its proofs stand in proofs/, and Variants has what would be false.
use Rattle.std.specs.Prelude.{◌≤◌, ◌≡◌, ◌↔◌, true, List, [], ◌∷◌, length}
use Rattle.std.proofs.Math.Option.{some}
use Rattle.meaning.specs.Bytes.{Text, every, In}
use Rattle.meaning.specs.Limits.{spec_list_bytes, row_list_bytes}
use Rattle.meaning.specs.Spec.{accepted, Spec}
use Rattle.meaning.specs.Lists.{read_specs, read_items}
use Rattle.meaning.specs.Rows.{Row, row_list_of, read_rows}
use Rattle.meaning.specs.Listing.{forward_rows, reverse_rows}
use Rattle.meaning.specs.Validation.{Fix, Verdict, passing, verdict}
use Rattle.meaning.specs.Entries.{verdict_on, verdict_bytes, match_lhs, validated}
use Rattle.promises.specs.Terms.{TwoSources, NamesConflict, Passes, reversible, StandsAsSource, canonical_list, text_fits, no_plus, SameMeaning}

-- "Whatever accepted fetch specs and whatever row list are validated [..]: unless refused, validation names a destination in conflict
-- exactly when two of the rows put different sources on it, and passes exactly when there is no such destination."
-- The entry `validated` answers the bytes of that verdict.
abbrev pub ConflictsExactly : Type 0
ConflictsExactly =
    (specs list : Text) (group : List Spec) (rows : List Row)
    → read_specs 0 specs ≡ accepted group
    → read_rows (length group) list ≡ accepted rows
    → (v : Verdict)
    × (verdict_on 0 specs list ≡ accepted v)
    × ((d : Text) → NamesConflict v d ↔ TwoSources rows d)
    × (Passes v ↔ ((d : Text) → TwoSources rows d → ⊥))
    × (validated 0 specs list ≡ accepted (verdict_bytes v))

-- "[..] every forward listing that fits a row list among them [..]": what the entry `match_lhs` writes is read back under its group as
-- the same rows, and `validated` answers their verdict.
abbrev pub ListingsReadBack : Type 0
ListingsReadBack =
    (specs items : Text) (group : List Spec) (names : List Text)
    → read_specs 0 specs ≡ accepted group
    → read_items items ≡ accepted names
    → length (row_list_of (forward_rows group names)) ≤ row_list_bytes
    → (match_lhs 0 specs items ≡ accepted (some (row_list_of (forward_rows group names)) ∷ []))
    × (read_rows (length group) (row_list_of (forward_rows group names)) ≡ accepted (forward_rows group names))
    × (validated 0 specs (row_list_of (forward_rows group names)) ≡ accepted (verdict_bytes (verdict (forward_rows group names))))

-- "Whatever the items, in a fetch group where every spec with a destination has patterns on both sides or begins both with refs/, take
-- any kept destination of at most 4,096 bytes: in every reverse listing under the group whose item list holds it, a forward item
-- stands as its source exactly when the item's name is the kept row's source."
-- It holds of any specs and any names, so of every fetch group and of every item list. The entries
-- `match_lhs`, `validated` and `match_rhs` answer the bytes of these rows (RowsAnswered).
abbrev pub KeptMapBack : Type 0
KeptMapBack =
    (group : List Spec) (names others : List Text) (kept : List Row) (fixes : List Fix) (r : Row) (d n : Text)
    → every reversible group ≡ true
    → verdict (forward_rows group names) ≡ passing kept fixes
    → In r kept
    → r.destination ≡ some d
    → In d others
    → In n names
    → StandsAsSource (reverse_rows group others) d n ↔ (n ≡ r.source)

-- "Whatever the items and rows, a fetch group and the group of its canonical texts have the same forward rows, reverse rows,
-- conflicts, kept rows and fixes, if those texts fit the limits and no fetch-only source begins with +."
-- And so the entries `match_lhs`, `match_rhs` and `validated` answer the same under either spec list.
abbrev pub CanonicalTextsChangeNothing : Type 0
CanonicalTextsChangeNothing =
    (specs : Text) (group : List Spec)
    → read_specs 0 specs ≡ accepted group
    → every text_fits group ≡ true
    → length (canonical_list group) ≤ spec_list_bytes
    → every no_plus group ≡ true
    → (group' : List Spec) × (read_specs 0 (canonical_list group) ≡ accepted group') × SameMeaning group group' specs (canonical_list group)
