-- False variants of demand 3: each of its premises left out, and statements near it. FalseVariants says that none of them holds, and
-- PremisesMet that the premises can be met.
use Rattle.std.specs.Prelude.{◌≤◌, ◌≡◌, ◌↔◌, Bool, true, false, List, [], ◌∷◌, length}
use Rattle.std.proofs.Math.Option.{Option, none, some}
use Rattle.meaning.specs.Bytes.{Text, bytes, ◌and◌, ◌or◌, every, keep, begins, In}
use Rattle.meaning.specs.Limits.{spec_list_bytes, row_list_bytes}
use Rattle.meaning.specs.Spec.{accepted, Force, Negative, Spec, starred}
use Rattle.meaning.specs.Number.{record_bytes}
use Rattle.meaning.specs.Lists.{read_specs, read_items}
use Rattle.meaning.specs.Rows.{Row, row_list_of, read_rows}
use Rattle.meaning.specs.Listing.{forward_rows, reverse_rows}
use Rattle.meaning.specs.Validation.{Fix, Verdict, passing, verdict, is_kept}
use Rattle.meaning.specs.Entries.{verdict_on}
use Rattle.promises.specs.Terms.{TwoSources, NamesConflict, reversible, StandsAsSource, canonical_list, text_fits, no_plus, SameMeaning}

-- Conflicts, exactly

-- the specs need not be accepted
abbrev pub ConflictsOfAnySpecs : Type 0
ConflictsOfAnySpecs = (specs list : Text) (group : List Spec) (rows : List Row) → read_rows (length group) list ≡ accepted rows → (v : Verdict) × (verdict_on 0 specs list ≡ accepted v)

-- the row list need not be accepted
abbrev pub ConflictsOfAnyRows : Type 0
ConflictsOfAnyRows = (specs list : Text) (group : List Spec) → read_specs 0 specs ≡ accepted group → (v : Verdict) × (verdict_on 0 specs list ≡ accepted v)

-- a conflict needs sources that differ in bytes: kinds do not count
abbrev pub ConflictsByBytes : Type 0
ConflictsByBytes = (rows : List Row) (d : Text) → NamesConflict (verdict rows) d → (r : Row) × (q : Row) × In r rows × In q rows × (r.source ≡ q.source → ⊥)

-- two rows with one destination are a conflict, whatever their sources
abbrev pub ConflictsByDestination : Type 0
ConflictsByDestination = (r q : Row) (d : Text) → r.destination ≡ some d → q.destination ≡ some d → NamesConflict (verdict (r ∷ q ∷ [])) d

-- rows with a partial destination are in no conflict
abbrev pub ConflictsOfKeptRows : Type 0
ConflictsOfKeptRows = (rows : List Row) (d : Text) → NamesConflict (verdict rows) d → TwoSources (keep is_kept rows) d

-- Listings are row lists

-- the specs need not be accepted
abbrev pub ReadBackOfAnySpecs : Type 0
ReadBackOfAnySpecs =
    (specs items : Text) (group : List Spec) (names : List Text)
    → read_items items ≡ accepted names
    → length (row_list_of (forward_rows group names)) ≤ row_list_bytes
    → verdict_on 0 specs (row_list_of (forward_rows group names)) ≡ accepted (verdict (forward_rows group names))

-- the items need not be accepted
abbrev pub ReadBackOfAnyNames : Type 0
ReadBackOfAnyNames =
    (specs : Text) (group : List Spec) (names : List Text)
    → read_specs 0 specs ≡ accepted group
    → length (row_list_of (forward_rows group names)) ≤ row_list_bytes
    → read_rows (length group) (row_list_of (forward_rows group names)) ≡ accepted (forward_rows group names)

-- the listing need not fit a row list
abbrev pub ReadBackOfAnySize : Type 0
ReadBackOfAnySize =
    (specs items : Text) (group : List Spec) (names : List Text)
    → read_specs 0 specs ≡ accepted group
    → read_items items ≡ accepted names
    → read_rows (length group) (row_list_of (forward_rows group names)) ≡ accepted (forward_rows group names)

-- the listing is read back under no specs
abbrev pub ReadBackUnderNone : Type 0
ReadBackUnderNone =
    (specs items : Text) (group : List Spec) (names : List Text)
    → read_specs 0 specs ≡ accepted group
    → read_items items ≡ accepted names
    → length (row_list_of (forward_rows group names)) ≤ row_list_bytes
    → read_rows 0 (row_list_of (forward_rows group names)) ≡ accepted (forward_rows group names)

-- Kept destinations map back

-- kept destinations map back under specs that pass a test
abbrev pub KeptMapBackWhere : (Spec → Bool) → Type 0
KeptMapBackWhere premise =
    (group : List Spec) (names others : List Text) (kept : List Row) (fixes : List Fix) (r : Row) (d n : Text)
    → every premise group ≡ true
    → verdict (forward_rows group names) ≡ passing kept fixes
    → In r kept
    → r.destination ≡ some d
    → In d others
    → In n names
    → StandsAsSource (reverse_rows group others) d n ↔ (n ≡ r.source)

-- no premise on a spec
abbrev pub any_spec : Spec → Bool
any_spec s = true

-- one side with `refs/` is enough
abbrev pub one_side : Option Text → Option Text → Bool
one_side src none = true
one_side none (some d) = false
one_side (some s) (some d) = (starred s and starred d) or begins (bytes "refs/") s or begins (bytes "refs/") d

-- of a spec
unfoldable pub one_sided : Spec → Bool
one_sided s = one_side s.source s.destination

-- the row need not be kept: the forward rows may hold conflicts
abbrev pub MapBackInConflict : Type 0
MapBackInConflict =
    (group : List Spec) (names others : List Text) (r : Row) (d n : Text)
    → every reversible group ≡ true
    → In r (forward_rows group names)
    → r.destination ≡ some d
    → In d others
    → In n names
    → StandsAsSource (reverse_rows group others) d n → n ≡ r.source

-- the row need not stand among the kept rows
abbrev pub MapBackOfAnyRow : Type 0
MapBackOfAnyRow =
    (group : List Spec) (names others : List Text) (kept : List Row) (fixes : List Fix) (r : Row) (d n : Text)
    → every reversible group ≡ true
    → verdict (forward_rows group names) ≡ passing kept fixes
    → r.destination ≡ some d
    → In d others
    → In n names
    → n ≡ r.source → StandsAsSource (reverse_rows group others) d n

-- the destination need not be the row's
abbrev pub MapBackOfAnyDestination : Type 0
MapBackOfAnyDestination =
    (group : List Spec) (names others : List Text) (kept : List Row) (fixes : List Fix) (r : Row) (d n : Text)
    → every reversible group ≡ true
    → verdict (forward_rows group names) ≡ passing kept fixes
    → In r kept
    → In d others
    → In n names
    → n ≡ r.source → StandsAsSource (reverse_rows group others) d n

-- the reverse listing's items need not hold the destination
abbrev pub MapBackWithoutIt : Type 0
MapBackWithoutIt =
    (group : List Spec) (names others : List Text) (kept : List Row) (fixes : List Fix) (r : Row) (d n : Text)
    → every reversible group ≡ true
    → verdict (forward_rows group names) ≡ passing kept fixes
    → In r kept
    → r.destination ≡ some d
    → In n names
    → n ≡ r.source → StandsAsSource (reverse_rows group others) d n

-- the source need not be a forward item
abbrev pub MapBackToAnyName : Type 0
MapBackToAnyName =
    (group : List Spec) (names others : List Text) (kept : List Row) (fixes : List Fix) (r : Row) (d n : Text)
    → every reversible group ≡ true
    → verdict (forward_rows group names) ≡ passing kept fixes
    → In r kept
    → r.destination ≡ some d
    → In d others
    → StandsAsSource (reverse_rows group others) d n → n ≡ r.source

-- Canonical texts change nothing

-- the specs need not be accepted
abbrev pub CanonicalOfAnySpecs : Type 0
CanonicalOfAnySpecs =
    (group : List Spec)
    → every text_fits group ≡ true
    → length (canonical_list group) ≤ spec_list_bytes
    → every no_plus group ≡ true
    → (group' : List Spec) × (read_specs 0 (canonical_list group) ≡ accepted group')

-- a text may be longer than a spec
abbrev pub CanonicalOfAnyLength : Type 0
CanonicalOfAnyLength =
    (specs : Text) (group : List Spec)
    → read_specs 0 specs ≡ accepted group
    → length (canonical_list group) ≤ spec_list_bytes
    → every no_plus group ≡ true
    → (group' : List Spec) × (read_specs 0 (canonical_list group) ≡ accepted group')

-- their list may be longer than a spec list
abbrev pub CanonicalOfAnyList : Type 0
CanonicalOfAnyList =
    (specs : Text) (group : List Spec)
    → read_specs 0 specs ≡ accepted group
    → every text_fits group ≡ true
    → every no_plus group ≡ true
    → (group' : List Spec) × (read_specs 0 (canonical_list group) ≡ accepted group')

-- a fetch-only source may begin with `+`
abbrev pub CanonicalOfAnySource : Type 0
CanonicalOfAnySource =
    (specs : Text) (group : List Spec)
    → read_specs 0 specs ≡ accepted group
    → every text_fits group ≡ true
    → length (canonical_list group) ≤ spec_list_bytes
    → (group' : List Spec) × (read_specs 0 (canonical_list group) ≡ accepted group') × SameMeaning group group' specs (canonical_list group)

-- the group of canonical texts is the group itself
abbrev pub CanonicalIsTheSame : Type 0
CanonicalIsTheSame =
    (specs : Text) (group : List Spec)
    → read_specs 0 specs ≡ accepted group
    → every text_fits group ≡ true
    → length (canonical_list group) ≤ spec_list_bytes
    → every no_plus group ≡ true
    → read_specs 0 (canonical_list group) ≡ accepted group

-- none of them holds
pub record FalseVariants : Type 0 where
  pub conflicts-of-any-specs : ConflictsOfAnySpecs → ⊥
  pub conflicts-of-any-rows : ConflictsOfAnyRows → ⊥
  pub conflicts-by-bytes : ConflictsByBytes → ⊥
  pub conflicts-by-destination : ConflictsByDestination → ⊥
  pub conflicts-of-kept-rows : ConflictsOfKeptRows → ⊥
  pub read-back-of-any-specs : ReadBackOfAnySpecs → ⊥
  pub read-back-of-any-names : ReadBackOfAnyNames → ⊥
  pub read-back-of-any-size : ReadBackOfAnySize → ⊥
  pub read-back-under-none : ReadBackUnderNone → ⊥
  pub map-back-of-any-spec : KeptMapBackWhere any_spec → ⊥
  pub map-back-one-sided : KeptMapBackWhere one_sided → ⊥
  pub map-back-in-conflict : MapBackInConflict → ⊥
  pub map-back-of-any-row : MapBackOfAnyRow → ⊥
  pub map-back-of-any-destination : MapBackOfAnyDestination → ⊥
  pub map-back-without-it : MapBackWithoutIt → ⊥
  pub map-back-to-any-name : MapBackToAnyName → ⊥
  pub canonical-of-any-specs : CanonicalOfAnySpecs → ⊥
  pub canonical-of-any-length : CanonicalOfAnyLength → ⊥
  pub canonical-of-any-list : CanonicalOfAnyList → ⊥
  pub canonical-of-any-source : CanonicalOfAnySource → ⊥
  pub canonical-is-the-same : CanonicalIsTheSame → ⊥

-- document 01's own sample: the group, its names, and its one row
abbrev pub hub_group : List Spec
hub_group =
    record { mode = Force; source = some (bytes "refs/heads/*"); destination = some (bytes "refs/remotes/hub/*") }
    ∷ record { mode = Negative; source = some (bytes "refs/heads/tmp*"); destination = none }
    ∷ []

abbrev pub hub_names : List Text
hub_names = bytes "refs/heads/codes" ∷ bytes "refs/heads/tmp1" ∷ []

abbrev pub hub_row : Row
hub_row = record { item = 1; spec = 0; kind = 0; source = bytes "refs/heads/codes"; destination = some (bytes "refs/remotes/hub/codes") }

-- demand 3 speaks of something: the sample meets the premises of its statements
pub record PremisesMet : Type 0 where
  pub group-is-read : read_specs 0 (record_bytes (bytes "+refs/heads/*:refs/remotes/hub/*" ∷ bytes "^refs/heads/tmp*" ∷ [])) ≡ accepted hub_group
  pub rows_are : forward_rows hub_group hub_names ≡ hub_row ∷ []
  pub is-reversible : every reversible hub_group ≡ true
  pub row-is-kept : verdict (forward_rows hub_group hub_names) ≡ passing (hub_row ∷ []) []
  pub maps-back : StandsAsSource (reverse_rows hub_group (bytes "refs/remotes/hub/codes" ∷ [])) (bytes "refs/remotes/hub/codes") (bytes "refs/heads/codes")
  pub texts-fit : (every text_fits hub_group ≡ true) × (length (canonical_list hub_group) ≤ spec_list_bytes)
  pub has-no-plus : every no_plus hub_group ≡ true
