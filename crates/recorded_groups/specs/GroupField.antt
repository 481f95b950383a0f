-- What holding a field of a group's record to its bytes finds.
use Rattle.std.specs.Prelude.{ℕ, ◌≤◌, ◌≡◌, false, Option, Some, None, [], ◌∷◌, ◌++◌, length, take, drop}
use Rattle.std.proofs.Math.Option.{some}
use Rattle.meaning.specs.Bytes.{Text, begins}
use Rattle.meaning.specs.Spec.{Answer, accepted}
use Rattle.meaning.specs.Buffers.{Outputs}
use Rattle.meaning.specs.Entries.{match_rhs}
use Rattle.prefixes.specs.Group.{group_prefixes}
use Rattle.recorded.specs.Record.{sized}
use Rattle.recorded.specs.Field.{Stands}

-- what a call that refuses nothing has written to a buffer's front stands in s
pub record WrittenStands (s : Text) (at : ℕ) (out : Text) (refusal size next : ℕ) : Type 0 where
  pub passes : refusal ≡ 0
  pub stands : Stands s at (sized (take size out)) next

-- what is told of a buffer's front: it stands in s, or the call refused something, or it does not
abbrev pub WrittenFound : Text → ℕ → Text → ℕ → ℕ → Option ℕ → Type 0
WrittenFound s at out refusal size (Some next) = WrittenStands s at out refusal size next
WrittenFound s at out refusal size None = refusal ≡ 0 → size ≤ length out → begins (sized (take size out)) (drop at s) ≡ false

-- an answer is one text, which stands in s
pub record AnswerStands (s : Text) (at : ℕ) (answer : Answer Outputs) (next : ℕ) : Type 0 where
  pub text : Text
  pub is : answer ≡ accepted (some text ∷ [])
  pub stands : Stands s at (sized text) next

-- what is told of an answer: it is one text, which stands in s, or which does not
abbrev pub AnswerFound : Text → ℕ → Answer Outputs → Option ℕ → Type 0
AnswerFound s at answer (Some next) = AnswerStands s at answer next
AnswerFound s at answer None = (text : Text) → answer ≡ accepted (some text ∷ []) → begins (sized text) (drop at s) ≡ false

-- these bytes are the rows of the reverse listing and the prefix list
pub record BackThere (op : ℕ) (specs items bytes : Text) : Type 0 where
  pub back : Text
  pub prefixes : Text
  pub lists_back : match_rhs op specs items ≡ accepted (some back ∷ [])
  pub lists-prefixes : group_prefixes op specs ≡ accepted (some prefixes ∷ [])
  pub is : bytes ≡ sized back ++ sized prefixes
