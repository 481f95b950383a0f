-- How an answer meets its buffers: what every call that writes has in common.
use Rattle.std.specs.Prelude.{ℕ, suc, ◌≤◌, ◌*◌, ◌≡◌, cond, List, [], ◌∷◌, ◌++◌, map, leb, length, drop}
use Rattle.std.proofs.Math.Option
use Rattle.std.proofs.Math.Option.{Option, none, some}
use Rattle.meaning.specs.Bytes.{Text}
use Rattle.meaning.specs.Spec.{Answer, accepted, refused}

-- bytes for each output buffer, in order; none: that buffer is left alone
abbrev pub Outputs : Type 0
Outputs = List (Option Text)

-- what a call comes to: a refusal's number and its record's; or the first buffer that is too short for its part, counting from 1,
-- and what it needs; or all parts are written
pub data Outcome : Type 0 where
  refuses : ℕ → Option ℕ → Outcome
  short : ℕ → ℕ → Outcome
  writes : Outputs → Outcome

-- the first of the buffers; a missing buffer is one of length 0
abbrev pub first_buffer : List Text → Text
first_buffer [] = []
first_buffer (b ∷ buffers) = b

-- the buffers after the first
abbrev pub later_buffers : List Text → List Text
later_buffers [] = []
later_buffers (b ∷ buffers) = buffers

-- the outcome where a part is for this buffer: the buffer is short, or the later parts decide; one that is left alone is never short
abbrev pub unless_short : ℕ → Option Text → Text → Outcome → Outcome
unless_short i none buffer later = later
unless_short i (some part) buffer later = cond (leb (length part) (length buffer)) later (short i (length part))

-- the outcome `done` of writing, unless one of the buffers, counting from i, is too short for its part
abbrev pub first_short : Outcome → ℕ → Outputs → List Text → Outcome
first_short done i [] buffers = done
first_short done i (part ∷ parts) buffers = unless_short i part (first_buffer buffers) (first_short done (suc i) parts (later_buffers buffers))

-- what an answer comes to with these buffers
abbrev pub outcome : Answer Outputs → List Text → Outcome
outcome (refused n r) buffers = refuses n r
outcome (accepted parts) buffers = first_short (writes parts) 1 parts buffers

-- a buffer with its part over its front and the rest kept
abbrev pub overwrite : Option Text → Text → Text
overwrite none buffer = buffer
overwrite (some part) buffer = part ++ drop (length part) buffer

-- each buffer with its part
abbrev pub overwritten : Outputs → List Text → List Text
overwritten [] buffers = buffers
overwritten (part ∷ parts) [] = []
overwritten (part ∷ parts) (b ∷ buffers) = overwrite part b ∷ overwritten parts buffers

-- the buffers afterwards: nothing is written on refusal
abbrev pub buffers_after : Outcome → List Text → List Text
buffers_after (refuses n r) buffers = buffers
buffers_after (short i needed) buffers = buffers
buffers_after (writes parts) buffers = overwritten parts buffers

-- what a call tells beside its buffers: a refusal's number, or 0; its record's number; the bytes written to each buffer, none for
-- one that is left alone; and beside 17 which buffer is short, counting from 1, and a length for it
pub record Told : Type 0 where
  pub refusal : ℕ
  pub record_number : Option ℕ
  pub lengths : List (Option ℕ)
  pub buffer : ℕ
  pub beside : ℕ

-- the refusal that is told
abbrev pub refusal_of : Outcome → ℕ
refusal_of (refuses n r) = n
refusal_of (short i needed) = 17
refusal_of (writes parts) = 0

-- the record that is told; 17 carries none
abbrev pub record_of : Outcome → Option ℕ
record_of (refuses n r) = r
record_of (short i needed) = none
record_of (writes parts) = none

-- the lengths that are told, of what was written
abbrev pub lengths_of : Outcome → List (Option ℕ)
lengths_of (refuses n r) = []
lengths_of (short i needed) = []
lengths_of (writes parts) = map (Option.map length) parts

-- the buffer that is told, 0 for none
abbrev pub buffer_of : Outcome → ℕ
buffer_of (refuses n r) = 0
buffer_of (short i needed) = i
buffer_of (writes parts) = 0

-- the length beside 17: at least what is needed and at most twice that
pub record LengthBeside (needed told : ℕ) : Type 0 where
  pub at_least : needed ≤ told
  pub at_most : told ≤ 2 * needed

-- the length that is told of a short buffer; 0 where none is short
abbrev pub BesideOf : Outcome → ℕ → Type 0
BesideOf (refuses n r) told = told ≡ 0
BesideOf (short i needed) told = LengthBeside needed told
BesideOf (writes parts) told = told ≡ 0

-- a call tells an outcome
pub record Tells (o : Outcome) (t : Told) : Type 0 where
  pub refusal_is : t.refusal ≡ refusal_of o
  pub record_is : t.record_number ≡ record_of o
  pub lengths-are : t.lengths ≡ lengths_of o
  pub buffer-is : t.buffer ≡ buffer_of o
  pub beside-is : BesideOf o t.beside

-- a call with this answer meets its buffers, as they were at entry and are at exit, and tells so
pub record Meets (a : Answer Outputs) (entry exit : List Text) (t : Told) : Type 0 where
  pub buffers-are : exit ≡ buffers_after (outcome a entry) entry
  pub tells : Tells (outcome a entry) t

-- a number that may be absent, as a C field: one without a meaning is 0
abbrev pub or_zero : Option ℕ → ℕ
or_zero none = 0
or_zero (some n) = n

-- the one length that a call on one buffer answers: the bytes written, or beside 17 the length for the buffer
abbrev pub one_length : List (Option ℕ) → ℕ → ℕ
one_length [] beside = beside
one_length (written ∷ lengths) beside = or_zero written

-- a call on one buffer meets it and tells so in three numbers: the refusal, the record and the length
pub record MeetsOne (a : Answer Outputs) (entry exit : Text) (refusal record_number size : ℕ) : Type 0 where
  pub told : Told
  pub meets : Meets a (entry ∷ []) (exit ∷ []) told
  pub refusal_is : refusal ≡ told.refusal
  pub record_is : record_number ≡ or_zero told.record_number
  pub size_is : size ≡ one_length told.lengths told.beside

-- 1 where a part was written, perhaps of no bytes; 0 where the buffer was left alone
abbrev pub written_mark : List (Option ℕ) → ℕ
written_mark [] = 0
written_mark (none ∷ lengths) = 0
written_mark (some n ∷ lengths) = 1

-- a call on one buffer that may have nothing to write meets it and tells so in four numbers: the refusal, the record, the mark of something
-- written, which the length does not tell, and the length
pub record MeetsMaybe (a : Answer Outputs) (entry exit : Text) (refusal record_number mark size : ℕ) : Type 0 where
  pub told : Told
  pub meets : Meets a (entry ∷ []) (exit ∷ []) told
  pub refusal_is : refusal ≡ told.refusal
  pub record_is : record_number ≡ or_zero told.record_number
  pub mark-is : mark ≡ written_mark told.lengths
  pub size_is : size ≡ one_length told.lengths told.beside

-- 1 where the second buffer was left alone: the first holds conflicts
abbrev pub conflict_mark : List (Option ℕ) → ℕ
conflict_mark (first ∷ none ∷ lengths) = 1
conflict_mark (first ∷ some n ∷ lengths) = 0
conflict_mark (first ∷ []) = 0
conflict_mark [] = 0

-- the bytes written to the second buffer
abbrev pub second_length : List (Option ℕ) → ℕ
second_length (first ∷ second ∷ lengths) = or_zero second
second_length (first ∷ []) = 0
second_length [] = 0

-- a call on a buffer for rows or conflicts and one for fixes meets them and tells so in six numbers: the refusal, the record, the
-- mark of conflicts, the length of the first part or beside 17 the length for the short buffer, the length of the second part, and
-- beside 17 which buffer is short
pub record MeetsTwo (a : Answer Outputs) (out fixes out_after fixes_after : Text) (refusal record_number mark size fixes_size buffer : ℕ) : Type 0 where
  pub told : Told
  pub meets : Meets a (out ∷ fixes ∷ []) (out_after ∷ fixes_after ∷ []) told
  pub refusal_is : refusal ≡ told.refusal
  pub record_is : record_number ≡ or_zero told.record_number
  pub mark-is : mark ≡ conflict_mark told.lengths
  pub size_is : size ≡ one_length told.lengths told.beside
  pub fixes-size-is : fixes_size ≡ second_length told.lengths
  pub buffer-is : buffer ≡ told.buffer
