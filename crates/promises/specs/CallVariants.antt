-- False variants of demand 3 of the calls. FalseCallVariants says that none of them holds, and CallsMet that there are such calls.
use Rattle.std.specs.Prelude.{◌≤◌, ◌≡◌, ◌↔◌, ◌⊎◌, true, List, [], ◌∷◌, length}
use Rattle.std.proofs.Math.Option.{some}
use Rattle.meaning.specs.Bytes.{Text, bytes, every, keep, In}
use Rattle.meaning.specs.Limits.{spec_list_bytes, row_list_bytes}
use Rattle.meaning.specs.Spec.{accepted, Spec, read_spec}
use Rattle.meaning.specs.Instruction.{canonical_text}
use Rattle.meaning.specs.Number.{record_bytes}
use Rattle.meaning.specs.Lists.{read_specs, read_items}
use Rattle.meaning.specs.Rows.{Row, row_list_of, read_rows}
use Rattle.meaning.specs.Listing.{forward_rows, reverse_rows}
use Rattle.meaning.specs.Validation.{is_kept}
use Rattle.meaning.specs.Entries.{to_bstring, match_lhs, match_rhs, validated}
use Rattle.promises.specs.Terms.{TwoSources, reversible, StandsAsSource, canonical_list, text_fits, OneCall, MetOne, bytes_of, TwoCall, MetTwo, first_bytes_of, Leaves, TellsConflicts, TellsPass, ReadsRows}
use Rattle.promises.specs.Variants.{hub_group, hub_row}

-- Unless refused

-- a call that tells a refusal was given lists that are read
abbrev pub ReadThoughRefused : Type 0
ReadThoughRefused = (specs list : Text) (c : TwoCall) → MetTwo (validated 0 specs list) c → ReadsRows specs list

-- Conflicts told

-- the call may tell a refusal
abbrev pub ConflictsToldThoughRefused : Type 0
ConflictsToldThoughRefused =
    (specs list : Text) (group : List Spec) (rows : List Row) (c : TwoCall)
    → read_specs 0 specs ≡ accepted group
    → read_rows (length group) list ≡ accepted rows
    → MetTwo (validated 0 specs list) c
    → TellsConflicts rows c ⊎ TellsPass rows c

-- the mark says that two of the rows that would be kept put different sources on one destination
abbrev pub ConflictsToldOfKept : Type 0
ConflictsToldOfKept =
    (specs list : Text) (group : List Spec) (rows : List Row) (c : TwoCall)
    → read_specs 0 specs ≡ accepted group
    → read_rows (length group) list ≡ accepted rows
    → MetTwo (validated 0 specs list) c
    → c.refusal ≡ 0
    → c.mark ≡ 1
    → (d : Text) × TwoSources (keep is_kept rows) d

-- Listings told

-- the listing need not fit a row list
abbrev pub ListingsToldOfAnySize : Type 0
ListingsToldOfAnySize =
    (specs items : Text) (group : List Spec) (names : List Text) (there : OneCall)
    → read_specs 0 specs ≡ accepted group
    → read_items items ≡ accepted names
    → MetOne (match_lhs 0 specs items) there
    → there.refusal ≡ 0
    → read_rows (length group) (bytes_of there) ≡ accepted (forward_rows group names)

-- the whole buffer is read back
abbrev pub ListingsToldOfBuffer : Type 0
ListingsToldOfBuffer =
    (specs items : Text) (group : List Spec) (names : List Text) (there : OneCall)
    → read_specs 0 specs ≡ accepted group
    → read_items items ≡ accepted names
    → MetOne (match_lhs 0 specs items) there
    → there.refusal ≡ 0
    → there.size ≤ row_list_bytes
    → read_rows (length group) there.after ≡ accepted (forward_rows group names)

-- Map back told

-- validation may tell conflicts, and any forward row maps back
abbrev pub MapBackToldInConflict : Type 0
MapBackToldInConflict =
    (specs items others : Text) (group : List Spec) (names other_names : List Text) (there : OneCall) (c : TwoCall) (back : OneCall)
    → read_specs 0 specs ≡ accepted group
    → read_items items ≡ accepted names
    → read_items others ≡ accepted other_names
    → every reversible group ≡ true
    → MetOne (match_lhs 0 specs items) there
    → there.refusal ≡ 0
    → MetTwo (validated 0 specs (bytes_of there)) c
    → c.refusal ≡ 0
    → c.mark ≡ 1
    → MetOne (match_rhs 0 specs others) back
    → back.refusal ≡ 0
    → (r : Row) (d n : Text) → In r (forward_rows group names) → r.destination ≡ some d → In d other_names → In n names → StandsAsSource (reverse_rows group other_names) d n → n ≡ r.source

-- the specs may be any
abbrev pub MapBackToldOfAnySpec : Type 0
MapBackToldOfAnySpec =
    (specs items others : Text) (group : List Spec) (names other_names : List Text) (there : OneCall) (c : TwoCall) (back : OneCall)
    → read_specs 0 specs ≡ accepted group
    → read_items items ≡ accepted names
    → read_items others ≡ accepted other_names
    → MetOne (match_lhs 0 specs items) there
    → there.refusal ≡ 0
    → MetTwo (validated 0 specs (bytes_of there)) c
    → c.refusal ≡ 0
    → c.mark ≡ 0
    → MetOne (match_rhs 0 specs others) back
    → back.refusal ≡ 0
    → (kept : List Row)
    × (read_rows (length group) (first_bytes_of c) ≡ accepted kept)
    × ((r : Row) (d n : Text) → In r kept → r.destination ≡ some d → In d other_names → In n names → n ≡ r.source → StandsAsSource (reverse_rows group other_names) d n)

-- the reverse listing may tell a refusal
abbrev pub MapBackToldThoughRefused : Type 0
MapBackToldThoughRefused =
    (specs others : Text) (group : List Spec) (other_names : List Text) (back : OneCall)
    → read_specs 0 specs ≡ accepted group
    → read_items others ≡ accepted other_names
    → every reversible group ≡ true
    → MetOne (match_rhs 0 specs others) back
    → Leaves back.before back.after (row_list_of (reverse_rows group other_names)) back.size

-- Canonical texts told

-- the call may tell a refusal
abbrev pub CanonicalToldThoughRefused : Type 0
CanonicalToldThoughRefused = (t : Text) (s : Spec) (c : OneCall) → read_spec 0 t ≡ accepted s → MetOne (to_bstring 0 t) c → bytes_of c ≡ canonical_text 0 s

-- a fetch-only source may begin with `+`
abbrev pub CanonicalToldOfAnySource : Type 0
CanonicalToldOfAnySource =
    (specs : Text) (group : List Spec)
    → read_specs 0 specs ≡ accepted group
    → every text_fits group ≡ true
    → length (canonical_list group) ≤ spec_list_bytes
    → (items : Text) (c : OneCall)
    → MetOne (match_lhs 0 specs items) c ↔ MetOne (match_lhs 0 (canonical_list group) items) c

-- none of them holds
pub record FalseCallVariants : Type 0 where
  pub read-though-refused : ReadThoughRefused → ⊥
  pub conflicts-told-though-refused : ConflictsToldThoughRefused → ⊥
  pub conflicts-told-of-kept : ConflictsToldOfKept → ⊥
  pub listings-told-of-any-size : ListingsToldOfAnySize → ⊥
  pub listings-told-of-buffer : ListingsToldOfBuffer → ⊥
  pub map-back-told-in-conflict : MapBackToldInConflict → ⊥
  pub map-back-told-of-any-spec : MapBackToldOfAnySpec → ⊥
  pub map-back-told-though-refused : MapBackToldThoughRefused → ⊥
  pub canonical-told-though-refused : CanonicalToldThoughRefused → ⊥
  pub canonical-told-of-any-source : CanonicalToldOfAnySource → ⊥

-- the spec list of document 01's own sample, its item list, and one that holds its destination
abbrev pub hub_specs : Text
hub_specs = record_bytes (bytes "+refs/heads/*:refs/remotes/hub/*" ∷ bytes "^refs/heads/tmp*" ∷ [])

abbrev pub hub_items : Text
hub_items = record_bytes (bytes "refs/heads/codes" ∷ bytes "refs/heads/tmp1" ∷ [])

abbrev pub hub_others : Text
hub_others = record_bytes (bytes "refs/remotes/hub/codes" ∷ [])

-- two sources on the partial destination `d`
abbrev pub clash : List Row
clash =
    record { item = 1; spec = 0; kind = 0; source = bytes "x"; destination = some (bytes "d") }
    ∷ record { item = 2; spec = 0; kind = 0; source = bytes "y"; destination = some (bytes "d") }
    ∷ []

-- the statements speak of something: calls on the sample meet the premises, and one of validation tells conflicts
pub record CallsMet : Type 0 where
  pub there : OneCall
  pub there-met : MetOne (match_lhs 0 hub_specs hub_items) there
  pub there-done : there.refusal ≡ 0
  pub there-fits : there.size ≤ row_list_bytes
  pub pass : TwoCall
  pub pass-met : MetTwo (validated 0 hub_specs (bytes_of there)) pass
  pub pass-done : (pass.refusal ≡ 0) × (pass.mark ≡ 0)
  pub row-is-kept : read_rows (length hub_group) (first_bytes_of pass) ≡ accepted (hub_row ∷ [])
  pub back : OneCall
  pub back-met : MetOne (match_rhs 0 hub_specs hub_others) back
  pub back_done : back.refusal ≡ 0
  pub conflict : TwoCall
  pub conflict-met : MetTwo (validated 0 hub_specs (row_list_of clash)) conflict
  pub conflict-told : (conflict.refusal ≡ 0) × (conflict.mark ≡ 1)
