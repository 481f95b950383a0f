-- The words of demand 3, as document 01 fixes them, and of document 02; then those that speak of calls.
use Rattle.std.specs.Prelude.{ℕ, ◌<◌, ◌≡◌, ◌↔◌, Bool, true, false, not, List, [], ◌∷◌, map, leb, length, take, drop}
use Rattle.std.proofs.Math.Option.{Option, none, some}
use Rattle.meaning.specs.Bytes.{Text, bytes, ◌and◌, ◌or◌, keep, each, begins, In}
use Rattle.meaning.specs.Limits.{spec_bytes}
use Rattle.meaning.specs.Spec.{Answer, accepted, Spec, starred, read_spec}
use Rattle.meaning.specs.Buffers.{Outputs, LengthBeside, MeetsOne, MeetsMaybe, MeetsTwo}
use Rattle.meaning.specs.Instruction.{Instruction, fetch_only, fetch_exclude, fetch_and_update, push_all_matching_branches, push_delete, push_matching, push_exclude, instruction, canonical_text}
use Rattle.meaning.specs.Number.{record_bytes}
use Rattle.meaning.specs.Lists.{read_specs, read_items}
use Rattle.meaning.specs.Rows.{Row, row_list_of, read_rows}
use Rattle.meaning.specs.Listing.{forward_rows, reverse_rows}
use Rattle.meaning.specs.Validation.{Conflict, conflicts, conflict_bytes, is_kept, fix_of, fix_bytes, Verdict, conflicting, passing}
use Rattle.meaning.specs.Entries.{to_bstring, match_lhs, match_rhs, verdict_on, validated}

-- two accepted specs of one operation
pub record TwoSpecs (op : ℕ) (t u : Text) (s r : Spec) : Type 0 where
  pub first : read_spec op t ≡ accepted s
  pub second : read_spec op u ≡ accepted r

-- two rows have one source: the same kind and the same bytes
abbrev pub SameSource : Row → Row → Type 0
SameSource r q = (r.kind ≡ q.kind) × (r.source ≡ q.source)

-- two of the rows put different sources on d
pub record TwoSources (rows : List Row) (d : Text) : Type 0 where
  pub first : Row
  pub second : Row
  pub first-in : In first rows
  pub second-in : In second rows
  pub first-onto : first.destination ≡ some d
  pub second-onto : second.destination ≡ some d
  pub different : SameSource first second → ⊥

-- a verdict names d as a destination in conflict
abbrev pub NamesConflict : Verdict → Text → Type 0
NamesConflict (conflicting l) d = (c : Conflict) × In c l × (c.destination ≡ d)
NamesConflict (passing rows fixes) d = ⊥

-- validation passes
abbrev pub Passes : Verdict → Type 0
Passes (conflicting l) = ⊥
Passes (passing rows fixes) = Unit {0}

-- both sides have a star, or both begin `refs/`
abbrev pub both_ways : Option Text → Option Text → Bool
both_ways src none = true
both_ways none (some d) = false
both_ways (some s) (some d) = (starred s and starred d) or (begins (bytes "refs/") s and begins (bytes "refs/") d)

-- a spec with a destination has patterns on both sides or begins both with `refs/`
unfoldable pub reversible : Spec → Bool
reversible s = both_ways s.source s.destination

-- some row of a listing has the destination d and the source n
pub record StandsAsSource (rows : List Row) (d n : Text) : Type 0 where
  pub row : Row
  pub row_in : In row rows
  pub onto-d : row.destination ≡ some d
  pub from-n : row.source ≡ n

-- the canonical texts of a fetch group, each in its spec's place
abbrev pub canonical_texts : List Spec → List Text
canonical_texts group = map (canonical_text 0) group

-- the spec list of those texts
abbrev pub canonical_list : List Spec → Text
canonical_list group = record_bytes (canonical_texts group)

-- a canonical text is not longer than a spec may be
unfoldable pub text_fits : Spec → Bool
text_fits s = leb (length (canonical_text 0 s)) spec_bytes

-- fetch-only, with a source that begins with `+`
abbrev pub plus_only : Instruction → Bool
plus_only (fetch_only src) = begins (bytes "+") src
plus_only (fetch_exclude src) = false
plus_only (fetch_and_update src dst force) = false
plus_only (push_all_matching_branches force) = false
plus_only (push_delete dst) = false
plus_only (push_matching src dst force) = false
plus_only (push_exclude src) = false

-- an instruction, but for whether it allows a non-fast-forward
abbrev pub unforced : Instruction → Instruction
unforced (fetch_only src) = fetch_only src
unforced (fetch_exclude src) = fetch_exclude src
unforced (fetch_and_update src dst force) = fetch_and_update src dst false
unforced (push_all_matching_branches force) = push_all_matching_branches false
unforced (push_delete dst) = push_delete dst
unforced (push_matching src dst force) = push_matching src dst false
unforced (push_exclude src) = push_exclude src

-- read for fetch, the spec is not fetch-only with a source that begins with `+`
unfoldable pub no_plus : Spec → Bool
no_plus s = not (plus_only (instruction 0 s))

-- two groups and their spec lists have the same forward rows, reverse rows, conflicts, kept rows and fixes, whatever the items and
-- rows, and so the entries answer the same
pub record SameMeaning (group group' : List Spec) (specs specs' : Text) : Type 0 where
  pub forward-rows : (names : List Text) → forward_rows group names ≡ forward_rows group' names
  pub reverse-rows : (names : List Text) → reverse_rows group names ≡ reverse_rows group' names
  pub verdicts : (list : Text) → verdict_on 0 specs list ≡ verdict_on 0 specs' list
  pub forward-entry : (items : Text) → match_lhs 0 specs items ≡ match_lhs 0 specs' items
  pub reverse-entry : (items : Text) → match_rhs 0 specs items ≡ match_rhs 0 specs' items
  pub validated-entry : (list : Text) → validated 0 specs list ≡ validated 0 specs' list

-- Calls

-- a call that answers in one buffer: the buffer before and after, and the numbers that it tells
pub record OneCall : Type 0 where
  pub before : Text
  pub after : Text
  pub refusal : ℕ
  pub record_number : ℕ
  pub size : ℕ

-- the call meets this answer: what the contract of an entry ensures
abbrev pub MetOne : Answer Outputs → OneCall → Type 0
MetOne a c = MeetsOne a c.before c.after c.refusal c.record_number c.size

-- the bytes that it answers: as many at the front of its buffer as it tells
abbrev pub bytes_of : OneCall → Text
bytes_of c = take c.size c.after

-- a call for the canonical text of each of these texts, in order, that tells no refusal
abbrev pub CallOnEach : List Text → List OneCall → Type 0
CallOnEach [] [] = Unit {0}
CallOnEach [] (c ∷ calls) = ⊥
CallOnEach (t ∷ texts) [] = ⊥
CallOnEach (t ∷ texts) (c ∷ calls) = MetOne (to_bstring 0 t) c × (c.refusal ≡ 0) × CallOnEach texts calls

-- a call that answers in two buffers, one for rows or conflicts and one for fixes
pub record TwoCall : Type 0 where
  pub out : Text
  pub fixes : Text
  pub out_after : Text
  pub fixes_after : Text
  pub refusal : ℕ
  pub record_number : ℕ
  pub mark : ℕ
  pub size : ℕ
  pub fixes_size : ℕ
  pub buffer : ℕ

-- the call meets this answer
abbrev pub MetTwo : Answer Outputs → TwoCall → Type 0
MetTwo a c = MeetsTwo a c.out c.fixes c.out_after c.fixes_after c.refusal c.record_number c.mark c.size c.fixes_size c.buffer

-- the bytes of rows or conflicts that it answers
abbrev pub first_bytes_of : TwoCall → Text
first_bytes_of c = take c.size c.out_after

-- a buffer is left with these bytes at its front, so many as are told, and the rest as before
pub record Leaves (before after part : Text) (size : ℕ) : Type 0 where
  pub front : take size after ≡ part
  pub size_is : size ≡ length part
  pub rest : drop size after ≡ drop size before
  pub same_length : length after ≡ length before

-- a call that answers in one buffer, or has nothing to write
pub record MaybeCall : Type 0 where
  pub before : Text
  pub after : Text
  pub refusal : ℕ
  pub record_number : ℕ
  pub mark : ℕ
  pub size : ℕ

-- the call meets this answer
abbrev pub MetMaybe : Answer Outputs → MaybeCall → Type 0
MetMaybe a c = MeetsMaybe a c.before c.after c.refusal c.record_number c.mark c.size

-- it leaves its buffer alone, with this refusal, 0 for none, and this record: no mark, no length
pub record TellsAlone (n k : ℕ) (c : MaybeCall) : Type 0 where
  pub refusal_is : c.refusal ≡ n
  pub record_is : c.record_number ≡ k
  pub unmarked : c.mark ≡ 0
  pub no_length : c.size ≡ 0
  pub alone : c.after ≡ c.before

-- it tells these bytes, perhaps none: the mark 1, and the bytes over the front of its buffer
pub record TellsBytes (part : Text) (c : MaybeCall) : Type 0 where
  pub refusal_is : c.refusal ≡ 0
  pub record_is : c.record_number ≡ 0
  pub marked : c.mark ≡ 1
  pub bytes_left : Leaves c.before c.after part c.size

-- it tells that its buffer is too short for these bytes: 17, no mark, a length for the buffer, and the buffer as before
pub record TellsShort (part : Text) (c : MaybeCall) : Type 0 where
  pub too_short : length c.before < length part
  pub refusal_is : c.refusal ≡ 17
  pub record_is : c.record_number ≡ 0
  pub unmarked : c.mark ≡ 0
  pub length-beside : LengthBeside (length part) c.size
  pub alone : c.after ≡ c.before

-- a call of validation tells conflicts: the mark 1, the bytes of conflicts whose destinations are exactly those on which two of the
-- rows put different sources, one at least; and the fix buffer as before
pub record TellsConflicts (rows : List Row) (c : TwoCall) : Type 0 where
  pub marked : c.mark ≡ 1
  pub conflicts-left : Leaves c.out c.out_after (each (conflicts rows) conflict_bytes) c.size
  pub fixes-alone : c.fixes_after ≡ c.fixes
  pub no-fixes-told : c.fixes_size ≡ 0
  pub exactly : (d : Text) → ((k : Conflict) × In k (conflicts rows) × (k.destination ≡ d)) ↔ TwoSources rows d
  pub one-at-least : (d : Text) × TwoSources rows d

-- it tells a pass: the mark 0, the bytes of the kept rows and of the fixes; and on no destination do two of the rows put different
-- sources
pub record TellsPass (rows : List Row) (c : TwoCall) : Type 0 where
  pub unmarked : c.mark ≡ 0
  pub kept-left : Leaves c.out c.out_after (row_list_of (keep is_kept rows)) c.size
  pub fixes-left : Leaves c.fixes c.fixes_after (each (each rows fix_of) fix_bytes) c.fixes_size
  pub none-two : (d : Text) → TwoSources rows d → ⊥

-- a spec list and an item list are read
pub record ReadsItems (specs items : Text) : Type 0 where
  pub group : List Spec
  pub names : List Text
  pub group-is : read_specs 0 specs ≡ accepted group
  pub names-are : read_items items ≡ accepted names

-- a spec list and a row list are read
pub record ReadsRows (specs list : Text) : Type 0 where
  pub group : List Spec
  pub rows : List Row
  pub group-is : read_specs 0 specs ≡ accepted group
  pub rows_are : read_rows (length group) list ≡ accepted rows
