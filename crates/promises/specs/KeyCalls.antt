-- What calls for canonical texts leave as keys: document 02, W13. The contract of the entry says that a call meets its answer; the buffer
-- and the numbers told are any that do. A call for the instruction answers places; that they mean what `instructed` says, and what this
-- makes of the statements here, stands in crate `refspec`. The words are defined in Terms, the proofs stand in proofs/KeyCalls.
use Rattle.std.specs.Prelude.{ℕ, ◌≤◌, ◌<◌, ◌≡◌, ◌↔◌, true, false, length}
use Rattle.meaning.specs.Bytes.{Text}
use Rattle.meaning.specs.Limits.{spec_bytes}
use Rattle.meaning.specs.Spec.{accepted, Spec, read_spec}
use Rattle.meaning.specs.Instruction.{instruction, canonical_text}
use Rattle.meaning.specs.Entries.{instructed, to_bstring}
use Rattle.promises.specs.Terms.{plus_only, OneCall, MetOne, bytes_of, Leaves}

-- "[..] for every accepted spec of either operation [..]": a call on one leaves its key, if the buffer is long enough for it.
abbrev pub KeyAnswered : Type 0
KeyAnswered =
    (op : ℕ) (t : Text) (s : Spec) (c : OneCall)
    → read_spec op t ≡ accepted s
    → MetOne (to_bstring op t) c
    → length (canonical_text op s) ≤ length c.before
    → (c.refusal ≡ 0) × Leaves c.before c.after (canonical_text op s) c.size

-- And a call that tells no refusal was given an accepted spec, and leaves its key.
abbrev pub KeyTold : Type 0
KeyTold =
    (op : ℕ) (t : Text) (c : OneCall)
    → MetOne (to_bstring op t) c
    → c.refusal ≡ 0
    → (s : Spec) × (read_spec op t ≡ accepted s) × Leaves c.before c.after (canonical_text op s) c.size

-- two calls for canonical texts of one operation, which tell no refusal
pub record TwoTold (op : ℕ) (t u : Text) (c d : OneCall) : Type 0 where
  pub first-met : MetOne (to_bstring op t) c
  pub first_done : c.refusal ≡ 0
  pub second-met : MetOne (to_bstring op u) d
  pub second-done : d.refusal ≡ 0

-- "For two accepted specs of one operation the texts are equal exactly if the instructions are [..]."
-- Two such calls answer the same bytes exactly if the instructions of the two texts are equal.
abbrev pub KeysToldExactly : Type 0
KeysToldExactly =
    (op : ℕ) (t u : Text) (c d : OneCall)
    → TwoTold op t u c d
    → (bytes_of c ≡ bytes_of d) ↔ (instructed op t ≡ instructed op u)

-- "Reading a canonical text that fits the limit gives an equal instruction, except for those sources."
-- A call on the bytes that were answered meets its answer exactly when the same call on the spec does.
abbrev pub KeysToldReadBack : Type 0
KeysToldReadBack =
    (op : ℕ) (t : Text) (s : Spec) (c : OneCall)
    → read_spec op t ≡ accepted s
    → MetOne (to_bstring op t) c
    → c.refusal ≡ 0
    → c.size ≤ spec_bytes
    → plus_only (instruction op s) ≡ false
    → (instructed op (bytes_of c) ≡ instructed op t) × ((d : OneCall) → MetOne (to_bstring op (bytes_of c)) d ↔ MetOne (to_bstring op t) d)

-- "[..] that fits the limit [..]": a call on bytes that are longer tells 1, and leaves its buffer as it was.
abbrev pub LongKeysTold : Type 0
LongKeysTold =
    (op : ℕ) (t : Text) (c : OneCall)
    → MetOne (to_bstring op t) c
    → c.refusal ≡ 0
    → spec_bytes < c.size
    → (d : OneCall)
    → MetOne (to_bstring op (bytes_of c)) d
    → (d.refusal ≡ 1) × (d.after ≡ d.before)

-- "[..] except for those sources": of them every one is an exception. A call on the bytes that were answered is refused or answers others.
abbrev pub PlusNeverToldBack : Type 0
PlusNeverToldBack =
    (op : ℕ) (t : Text) (s : Spec) (c : OneCall)
    → read_spec op t ≡ accepted s
    → MetOne (to_bstring op t) c
    → c.refusal ≡ 0
    → plus_only (instruction op s) ≡ true
    → (instructed op (bytes_of c) ≡ instructed op t → ⊥) × ((d : OneCall) → MetOne (to_bstring op (bytes_of c)) d → d.refusal ≡ 0 → bytes_of d ≡ bytes_of c → ⊥)

-- all of it
pub record KeysTold : Type 0 where
  pub key-answered : KeyAnswered
  pub key-told : KeyTold
  pub keys-told-exactly : KeysToldExactly
  pub keys-told-read-back : KeysToldReadBack
  pub long-keys-told : LongKeysTold
  pub plus-never-told-back : PlusNeverToldBack
