-- What holding a field of a record to its bytes finds.
use Rattle.std.specs.Prelude.{ℕ, ◌+◌, ◌-◌, ◌*◌, ◌<◌, ◌≤◌, ◌≡◌, false, cond, Option, Some, None, ◌++◌, leb, length, get_or, take, drop}
use Rattle.meaning.specs.Bytes.{Text, begins}
use Rattle.meaning.specs.Number.{took, read_text}
use Rattle.meaning.specs.Spec.{Spec, accepted, read_spec}
use Rattle.meaning.specs.Instruction.{instruction}
use Rattle.refspec.specs.declared.instruction.Instruction.{Instruction}
use Rattle.refspec.specs.Instructions.{instruction_meant}
use Rattle.recorded.specs.Record.{sized}
use Rattle.recorded.specs.declared.list.Passed.{Passed}

-- these bytes looked for at a place of s: the place after them, or they are not there
unfoldable pub field_at : Text → ℕ → Text → Option ℕ
field_at s at want = cond (begins want (drop at s)) (Some (at + length want)) None

-- the bytes `want` stand in s from one place to another
pub record Stands (s : Text) (at : ℕ) (want : Text) (next : ℕ) : Type 0 where
  pub is : drop at s ≡ want ++ drop next s
  pub within : next ≤ length s

-- two bytes at a place of s tell a length
pub record LengthTold (s : Text) (at n : ℕ) : Type 0 where
  pub room : 2 ≤ length s - at
  pub small : get_or s at 0 < 256
  pub is : n ≡ get_or s at 0 + get_or s (at + 1) 0 * 256

-- what is told of a length at a place: two bytes tell it, or there are not as many
abbrev pub LengthFound : Text → ℕ → Option ℕ → Type 0
LengthFound s at (Some n) = LengthTold s at n
LengthFound s at None = length s - at < 2

-- a text of any bytes stands in s from one place to another
pub record TextStands (s : Text) (at next : ℕ) : Type 0 where
  pub long : at + 2 ≤ next
  pub stands : Stands s at (sized (take (next - (at + 2)) (drop (at + 2) s))) next

-- what is told of a text of any bytes at a place: it stands there, or there is none
abbrev pub TextFound : Text → ℕ → Option ℕ → Type 0
TextFound s at (Some next) = TextStands s at next
TextFound s at None = (t rest : Text) → drop at s ≡ sized t ++ rest → ⊥

-- the first bytes of a buffer looked for as a text; a buffer that has fewer has no such text
unfoldable pub front_at : Text → ℕ → Text → ℕ → Option ℕ
front_at s at out size = cond (leb size (length out)) (field_at s at (sized (take size out))) None

-- a text of n bytes stands in both
pub record BothStand (s : Text) (at : ℕ) (list : Text) (from n next end : ℕ) : Type 0 where
  pub stands : Stands s at (sized (take n (drop from list))) next
  pub ends : end ≡ from + n
  pub within : end ≤ length list

-- what is told of n bytes at a place of a prefix list: they are a text that stands in both; or, if the list has so many, none that
-- stands in s
abbrev pub PassedText : Text → ℕ → Text → ℕ → ℕ → Option Passed → Type 0
PassedText s at list from n (Some p) = BothStand s at list from n p.next p.at
PassedText s at list from n None = from + n ≤ length list → begins (sized (take n (drop from list))) (drop at s) ≡ false

-- a record of a prefix list is read as a text, which stands in both
pub record BothRead (s : Text) (at : ℕ) (list : Text) (from next end : ℕ) : Type 0 where
  pub text : Text
  pub reads : read_text (drop from list) ≡ took text (drop end list)
  pub stands : Stands s at (sized text) next
  pub within : end ≤ length list

-- what is told of the record at a place of a prefix list
abbrev pub PassedRecord : Text → ℕ → Text → ℕ → Option Passed → Type 0
PassedRecord s at list from (Some p) = BothRead s at list from p.next p.at
PassedRecord s at list from None = (text rest : Text) → read_text (drop from list) ≡ took text rest → begins (sized text) (drop at s) ≡ false

-- the spec is accepted
pub record Reads (op : ℕ) (t : Text) : Type 0 where
  pub spec : Spec
  pub reads : read_spec op t ≡ accepted spec

-- the spec is accepted, and this is its instruction
pub record Instructs (op : ℕ) (t : Text) (i : Instruction) : Type 0 where
  pub accepts : Reads op t
  pub meant : instruction_meant t i ≡ instruction op accepts.spec
