-- Calls for the instruction and calls for the canonical text, side by side: document 02, W13. By its contract a call for the instruction
-- answers places, `instructed_places`; what they mean is an instruction, `instructed_meant`. The words of calls are those of `promises`,
-- and so are the statements on canonical texts alone. The proofs stand in proofs/Keys.
use Rattle.std.specs.Prelude.{ℕ, ◌≤◌, ◌≡◌, ◌↔◌, false, Result}
use Rattle.meaning.specs.Bytes.{Text}
use Rattle.meaning.specs.Limits.{spec_bytes}
use Rattle.meaning.specs.Spec.{accepted, Spec, read_spec}
use Rattle.meaning.specs.Instruction.{instruction}
use Rattle.meaning.specs.Entries.{to_bstring}
use Rattle.promises.specs.Terms.{plus_only, OneCall, MetOne, bytes_of}
use Rattle.promises.specs.KeyCalls.{TwoTold}
use Rattle.refusal.specs.declared.Refusal.{Refusal}
use Rattle.refspec.specs.declared.instruction.Instruction as code
use Rattle.refspec.specs.Instructions.{instructed_places, instructed_meant}

-- "For two accepted specs of one operation the texts are equal exactly if the instructions are [..]."
abbrev pub KeysMeantExactly : Type 0
KeysMeantExactly =
    (op : ℕ) (t u : Text) (i j : Result code.Instruction Refusal) (c d : OneCall)
    → i ≡ instructed_places op t
    → j ≡ instructed_places op u
    → TwoTold op t u c d
    → (bytes_of c ≡ bytes_of d) ↔ (instructed_meant t i ≡ instructed_meant u j)

-- "Reading a canonical text that fits the limit gives an equal instruction, except for those sources."
abbrev pub KeysMeantBack : Type 0
KeysMeantBack =
    (op : ℕ) (t : Text) (s : Spec) (i k : Result code.Instruction Refusal) (c : OneCall)
    → read_spec op t ≡ accepted s
    → i ≡ instructed_places op t
    → MetOne (to_bstring op t) c
    → c.refusal ≡ 0
    → c.size ≤ spec_bytes
    → plus_only (instruction op s) ≡ false
    → k ≡ instructed_places op (bytes_of c)
    → instructed_meant (bytes_of c) k ≡ instructed_meant t i

-- false: where the texts are equal, the places are
abbrev pub KeysByPlaces : Type 0
KeysByPlaces =
    (op : ℕ) (t u : Text) (i j : Result code.Instruction Refusal) (c d : OneCall)
    → i ≡ instructed_places op t
    → j ≡ instructed_places op u
    → TwoTold op t u c d
    → bytes_of c ≡ bytes_of d
    → i ≡ j

-- all of it
pub record KeysMeant : Type 0 where
  pub keys-meant-exactly : KeysMeantExactly
  pub keys-meant-back : KeysMeantBack
  pub not-by-places : KeysByPlaces → ⊥
