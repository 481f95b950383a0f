-- Demand 3 of the calls: what they answer and leave in their buffers. The contract of each entry says that a call meets its answer; the
-- buffers and the numbers told are any that do. The words are defined in Terms, the proofs stand in proofs/Calls.
use Rattle.std.specs.Prelude.{◌≤◌, ◌≡◌, ◌↔◌, ◌⊎◌, true, List, map, length}
use Rattle.std.proofs.Math.Option.{some}
use Rattle.meaning.specs.Bytes.{Text, every, keep, In}
use Rattle.meaning.specs.Limits.{spec_list_bytes, row_list_bytes}
use Rattle.meaning.specs.Spec.{accepted, Spec, read_spec}
use Rattle.meaning.specs.Instruction.{canonical_text}
use Rattle.meaning.specs.Number.{record_bytes}
use Rattle.meaning.specs.Lists.{read_specs, read_items}
use Rattle.meaning.specs.Rows.{Row, row_list_of, read_rows}
use Rattle.meaning.specs.Listing.{forward_rows, reverse_rows}
use Rattle.meaning.specs.Validation.{is_kept}
use Rattle.meaning.specs.Entries.{to_bstring, match_lhs, match_rhs, validated}
use Rattle.promises.specs.Terms.{reversible, StandsAsSource, canonical_list, text_fits, no_plus, OneCall, MetOne, bytes_of, CallOnEach, TwoCall, MetTwo, first_bytes_of, Leaves, TellsConflicts, TellsPass, ReadsItems, ReadsRows}

-- "[..] unless refused [..]": a call that tells no refusal was given a spec that is accepted, or lists that are read; so what the
-- statements below ask of the lists is so wherever the call is not refused.
abbrev pub UnlessRefused : Type 0
UnlessRefused =
    ((t : Text) (c : OneCall) → MetOne (to_bstring 0 t) c → c.refusal ≡ 0 → (s : Spec) × (read_spec 0 t ≡ accepted s))
    × ((specs items : Text) (c : OneCall) → MetOne (match_lhs 0 specs items) c → c.refusal ≡ 0 → ReadsItems specs items)
    × ((specs items : Text) (c : OneCall) → MetOne (match_rhs 0 specs items) c → c.refusal ≡ 0 → ReadsItems specs items)
    × ((specs list : Text) (c : TwoCall) → MetTwo (validated 0 specs list) c → c.refusal ≡ 0 → ReadsRows specs list)

-- "Whatever accepted fetch specs and whatever row list are validated [..]: unless refused, validation names a destination in conflict
-- exactly when two of the rows put different sources on it, and passes exactly when there is no such destination."
abbrev pub ConflictsTold : Type 0
ConflictsTold =
    (specs list : Text) (group : List Spec) (rows : List Row) (c : TwoCall)
    → read_specs 0 specs ≡ accepted group
    → read_rows (length group) list ≡ accepted rows
    → MetTwo (validated 0 specs list) c
    → c.refusal ≡ 0
    → TellsConflicts rows c ⊎ TellsPass rows c

-- "[..] every forward listing that fits a row list among them [..]": what a call of the forward listing leaves in its buffer is read
-- back as its rows, and the verdict of a call of validation on those bytes is theirs.
abbrev pub ListingsTold : Type 0
ListingsTold =
    (specs items : Text) (group : List Spec) (names : List Text) (there : OneCall)
    → read_specs 0 specs ≡ accepted group
    → read_items items ≡ accepted names
    → MetOne (match_lhs 0 specs items) there
    → there.refusal ≡ 0
    → there.size ≤ row_list_bytes
    → Leaves there.before there.after (row_list_of (forward_rows group names)) there.size
    × (read_rows (length group) (bytes_of there) ≡ accepted (forward_rows group names))
    × ((c : TwoCall) → MetTwo (validated 0 specs (bytes_of there)) c → c.refusal ≡ 0 → TellsConflicts (forward_rows group names) c ⊎ TellsPass (forward_rows group names) c)

-- "Whatever the items, in a fetch group where every spec with a destination has patterns on both sides or begins both with refs/, take
-- any kept destination of at most 4,096 bytes: in every reverse listing under the group whose item list holds it, a forward item
-- stands as its source exactly when the item's name is the kept row's source."
-- Three calls: a forward listing, the validation of its bytes, which passes and leaves the kept rows, and a reverse listing.
abbrev pub MapBackTold : Type 0
MapBackTold =
    (specs items others : Text) (group : List Spec) (names other_names : List Text) (there : OneCall) (c : TwoCall) (back : OneCall)
    → read_specs 0 specs ≡ accepted group
    → read_items items ≡ accepted names
    → read_items others ≡ accepted other_names
    → every reversible group ≡ true
    → MetOne (match_lhs 0 specs items) there
    → there.refusal ≡ 0
    → MetTwo (validated 0 specs (bytes_of there)) c
    → c.refusal ≡ 0
    → c.mark ≡ 0
    → MetOne (match_rhs 0 specs others) back
    → back.refusal ≡ 0
    → (read_rows (length group) (first_bytes_of c) ≡ accepted (keep is_kept (forward_rows group names)))
    × Leaves back.before back.after (row_list_of (reverse_rows group other_names)) back.size
    × (back.size ≤ row_list_bytes → read_rows (length group) (bytes_of back) ≡ accepted (reverse_rows group other_names))
    × ((r : Row) (d n : Text) → In r (keep is_kept (forward_rows group names)) → r.destination ≡ some d → In d other_names → In n names → StandsAsSource (reverse_rows group other_names) d n ↔ (n ≡ r.source))

-- "Whatever the items and rows, a fetch group and the group of its canonical texts have the same forward rows, reverse rows,
-- conflicts, kept rows and fixes, if those texts fit the limits and no fetch-only source begins with +."
-- A call for the canonical text of a spec leaves it; such calls on the texts of a spec list give the list of canonical texts (every spec
-- list that is read is the bytes of texts: OneSpelling in Facts); and a call under the one list meets its answer exactly when the same
-- call under the other does.
abbrev pub CanonicalTold : Type 0
CanonicalTold =
    ((t : Text) (s : Spec) (c : OneCall) → read_spec 0 t ≡ accepted s → MetOne (to_bstring 0 t) c → c.refusal ≡ 0 → Leaves c.before c.after (canonical_text 0 s) c.size)
    × ((texts : List Text) (group : List Spec) (calls : List OneCall) → read_specs 0 (record_bytes texts) ≡ accepted group → CallOnEach texts calls → record_bytes (map bytes_of calls) ≡ canonical_list group)
    × ((specs : Text) (group : List Spec)
    → read_specs 0 specs ≡ accepted group
    → every text_fits group ≡ true
    → length (canonical_list group) ≤ spec_list_bytes
    → every no_plus group ≡ true
    → ((items : Text) (c : OneCall) → MetOne (match_lhs 0 specs items) c ↔ MetOne (match_lhs 0 (canonical_list group) items) c)
    × ((items : Text) (c : OneCall) → MetOne (match_rhs 0 specs items) c ↔ MetOne (match_rhs 0 (canonical_list group) items) c)
    × ((list : Text) (c : TwoCall) → MetTwo (validated 0 specs list) c ↔ MetTwo (validated 0 (canonical_list group) list) c))
