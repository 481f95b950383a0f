-- Reading spec lists and item lists: the questions in order, each record in turn. The cursor that walks a list, and its answer at or
-- past the end, are the code's: crate `list`.
use Rattle.std.specs.Prelude.{ℕ, zero, suc, cond, List, [], ◌∷◌, leb, ltb, length}
use Rattle.std.proofs.Math.Option.{none, some}
use Rattle.meaning.specs.Bytes.{Text}
use Rattle.meaning.specs.Limits.{spec_list_bytes, item_list_bytes, spec_count, item_count, name_bytes}
use Rattle.meaning.specs.Spec.{Answer, accepted, refused, Spec, read_spec}
use Rattle.meaning.specs.Number.{Step, took, no, Reader, ◌>>=◌, give, need, read_text}

-- a record before the records that were read after it
abbrev pub with_first : {A : Type 0} → A → Answer (List A) → Answer (List A)
with_first a (accepted l) = accepted (a ∷ l)
with_first a (refused n r) = refused n r

-- a record that was read, before the rest of its list; a refusal carries the record's number
abbrev pub record_then : {A : Type 0} → ℕ → Step A → (Text → Answer (List A)) → Answer (List A)
record_then i (took a rest) read = with_first a (read rest)
record_then i (no n) read = refused n (some i)

-- the records of a text from number i on. The count of steps only makes this end: each record takes a byte, and `promises` shows
-- that with no count in it a list is read record by record (RecordByRecord)
abbrev pub records_from : {A : Type 0} → (ℕ → Reader A) → ℕ → ℕ → Text → Answer (List A)
records_from one zero i [] = accepted []
records_from one zero i (x ∷ s) = refused 13 (some i)
records_from one (suc k) i [] = accepted []
records_from one (suc k) i (x ∷ s) = record_then i (one i (x ∷ s)) (λ rest. records_from one k (suc i) rest)

-- a list of at most so many bytes, read record by record
unfoldable pub read_list : {A : Type 0} → ℕ → (ℕ → Reader A) → Text → Answer (List A)
read_list limit one s = cond (leb (length s) limit) (records_from one (length s) 0 s) (refused 12 none)

-- an answer on one record, with what is left
abbrev pub answered : {A : Type 0} → Answer A → Reader A
answered (accepted a) s = took a s
answered (refused n r) s = no n

-- the spec with number i: 14, then 13, then its own questions
unfoldable pub spec_record : ℕ → ℕ → Reader Spec
spec_record op i = need 14 (ltb i spec_count) (read_text >>= λ t. answered (read_spec op t))

-- the item with number i: 14, then 13, then 15
unfoldable pub item_record : ℕ → Reader Text
item_record i = need 14 (ltb i item_count) (read_text >>= λ t. need 15 (leb (length t) name_bytes) (give t))

-- a spec list, after the question of the operation
unfoldable pub read_specs : ℕ → Text → Answer (List Spec)
read_specs op s = cond (leb op 1) (read_list spec_list_bytes (spec_record op) s) (refused 18 none)

-- an item list
unfoldable pub read_items : Text → Answer (List Text)
read_items s = read_list item_list_bytes item_record s
