-- What an answer of reading becomes, an instruction or a prefix, and that the places of each mean it. Assumes nothing.
use Prim.Native.Nat.{ℕ}
use mathlib.Core.Path.{◌≡◌, refl, ap, ◌∙◌}
use lib.ListN.{length}
use Rattle.meaning.specs.Bytes.{Text}
use Rattle.meaning.specs.Spec.{accepted, read_spec}
use Rattle.meaning.specs.Instruction.{instruction}
use Rattle.meaning.specs.Prefix.{prefix_of, prefix}
use Rattle.meaning.specs.Entries as entries
use Rattle.meaning.specs.Entries.{◌and_then◌}
use Rattle.parse.specs.declared.types.Side.{Side}
use Rattle.parse.specs.declared.types.RefSpec.{RefSpec}
use Rattle.refspec.specs.declared.instruction.Instruction.{Instruction}
use Rattle.std.specs.Prelude.{Result, Ok, Err}
use Rattle.refusal.specs.declared.Refusal.{Refusal}
use Rattle.parse.specs.Places.{parsed}
use Rattle.parse.proofs.Answers.{read-accepted, read-refused, read-within}
use Rattle.refspec.specs.Instructions.{instructed_by, instructed_places, instructed_meant}
use Rattle.refspec.specs.Prefixes.{remote_place, prefixed_by, prefixed_places, prefixed_meant}
use Rattle.refspec.proofs.Instructions.{instruction-meant}
use Rattle.refspec.proofs.Fronts.{remote-meant, remote-within, prefix-meant}

-- the instruction that is answered means the meaning's
pub instructed-means : (op : ℕ) (t : Text) (r : Result Instruction Refusal) → r ≡ instructed_places op t → instructed_meant t r ≡ entries.instructed op t
unfolding instructed_places entries.instructed
instructed-means op t r e = rw e (go (parsed op t) refl)
  where
    go : (p : Result RefSpec Refusal) → p ≡ parsed op t → instructed_meant t (instructed_by op p) ≡ (read_spec op t and_then λ s. accepted (instruction op s))
    go (Ok q) h = rw (read-accepted op t (Ok q) h q refl) (ap accepted (instruction-meant op t q))
    go (Err q) h = rw (read-refused op t (Err q) h q refl)

-- so does the prefix
pub prefixed-means : (op : ℕ) (t : Text) (r : Result Side Refusal) → r ≡ prefixed_places op t → prefixed_meant t r ≡ entries.prefixed op t
unfolding prefixed_places entries.prefixed prefix
prefixed-means op t r e = rw e (go (parsed op t) refl)
  where
    go : (p : Result RefSpec Refusal) → p ≡ parsed op t → prefixed_meant t (prefixed_by op t p) ≡ (read_spec op t and_then λ s. accepted (prefix op s))
    go (Ok q) h = rw (read-accepted op t (Ok q) h q refl) (ap accepted (prefix-meant t (remote_place op q) (remote-within op (length t) q (remote_place op q) (read-within op t (Ok q) h q refl) refl) ∙ ap prefix_of (remote-meant op t q)))
    go (Err q) h = rw (read-refused op t (Err q) h q refl)

-- what is answered, and that it means this
pub instructs : (op : ℕ) (t : Text) (r : Result Instruction Refusal) → r ≡ instructed_places op t → (r ≡ instructed_places op t) × (instructed_meant t r ≡ entries.instructed op t)
instructs op t r e = (e, instructed-means op t r e)

pub prefixes : (op : ℕ) (t : Text) (r : Result Side Refusal) → r ≡ prefixed_places op t → (r ≡ prefixed_places op t) × (prefixed_meant t r ≡ entries.prefixed op t)
prefixes op t r e = (e, prefixed-means op t r e)
