-- The record of an answer, by the meaning: what the bytes of a record are where the answer that they tell is ours.
use Rattle.std.specs.Prelude.{ℕ, ◌/◌, ◌%◌, ◌≡◌, Bool, true, false, List, [], ◌∷◌, ◌++◌, length}
use Rattle.std.proofs.Math.Option.{Option, none, some}
use Rattle.meaning.specs.Bytes.{Text, each}
use Rattle.meaning.specs.Spec.{Answer, accepted, refused, Spec, read_spec}
use Rattle.meaning.specs.Instruction.{Instruction, fetch_only, fetch_exclude, fetch_and_update, push_all_matching_branches, push_delete, push_matching, push_exclude, instruction, canonical_text}
use Rattle.meaning.specs.Prefix.{prefix, expand_prefixes}

-- a text: its length in two bytes, the lower first, then its bytes
unfoldable pub sized : Text → Text
sized t = (length t % 256) ∷ (length t / 256) ∷ t

-- more bytes than any text of a record has
abbrev pub sized_room : ℕ
sized_room = 65536

-- 1 for true
abbrev pub flag_byte : Bool → ℕ
flag_byte true = 1
flag_byte false = 0

-- the number of an instruction's kind
abbrev pub kind_byte : Instruction → ℕ
kind_byte (fetch_only src) = 0
kind_byte (fetch_exclude src) = 1
kind_byte (fetch_and_update src dst force) = 2
kind_byte (push_all_matching_branches force) = 3
kind_byte (push_delete dst) = 4
kind_byte (push_matching src dst force) = 5
kind_byte (push_exclude src) = 6

-- 1 where it is forced
abbrev pub force_byte : Instruction → ℕ
force_byte (fetch_only src) = 0
force_byte (fetch_exclude src) = 0
force_byte (fetch_and_update src dst force) = flag_byte force
force_byte (push_all_matching_branches force) = flag_byte force
force_byte (push_delete dst) = 0
force_byte (push_matching src dst force) = flag_byte force
force_byte (push_exclude src) = 0

-- 1 for a spec that is accepted, and its instruction's two numbers
abbrev pub instruction_bytes : Instruction → Text
instruction_bytes i = 1 ∷ kind_byte i ∷ force_byte i ∷ []

-- a prefix: 0 for none, else 1 and its text
abbrev pub prefix_bytes : Option Text → Text
prefix_bytes none = 0 ∷ []
prefix_bytes (some p) = 1 ∷ sized p

-- prefixes: how many, and the text of each
unfoldable pub prefixes_bytes : List Text → Text
prefixes_bytes l = length l ∷ each l sized

-- an answer: 0 for a refusal
abbrev pub answer_bytes : ℕ → Answer Spec → Text
answer_bytes op (refused n r) = 0 ∷ []
answer_bytes op (accepted s) =
    instruction_bytes (instruction op s) ++ (sized (canonical_text op s) ++ (prefix_bytes (prefix op s) ++ prefixes_bytes (expand_prefixes op s)))

-- the record of a spec for an operation: both, and the answer
unfoldable pub answer_record : ℕ → Text → Text
answer_record op t = op ∷ (sized t ++ answer_bytes op (read_spec op t))

-- these bytes are the record of some spec
pub record IsRecord (bytes : Text) : Type 0 where
  pub op : ℕ
  pub spec : Text
  pub is : bytes ≡ answer_record op spec
