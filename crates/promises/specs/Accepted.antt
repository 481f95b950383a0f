-- What every accepted spec is: why the cases that the crate calls unreachable cannot be.
use Rattle.std.specs.Prelude.{ℕ, ◌≤◌, ◌≡◌, true, false, List, []}
use Rattle.std.proofs.Math.Option.{none, some}
use Rattle.meaning.specs.Bytes.{Text, ◌or◌, present, if_given, In}
use Rattle.meaning.specs.Names.{side_passes}
use Rattle.meaning.specs.Spec.{accepted, Negative, Spec, is_negative, push, unsigned, sides_of, has_colon, has_star, at_most_one_star, exempt, read_spec}
use Rattle.meaning.specs.Instruction.{instruction, fetch_instruction, push_exclude}
use Rattle.meaning.specs.Lists.{read_specs}

-- what a spec that is accepted for an operation has
pub record AcceptedSpec (op : ℕ) (s : Spec) : Type 0 where
  -- the operation is fetch or push
  pub operation : op ≤ 1
  -- a fetch has a source
  pub fetch-source : push op ≡ false → present s.source ≡ true
  -- a negative has a source and no destination
  pub negative-source : is_negative s.mode ≡ true → present s.source ≡ true
  pub negative-alone : is_negative s.mode ≡ true → s.destination ≡ none
  -- a side that is there has a byte
  pub source-filled : s.source ≡ some [] → ⊥
  pub destination-filled : s.destination ≡ some [] → ⊥
  -- no side has two stars
  pub source-star : if_given at_most_one_star s.source ≡ true
  pub destination-star : if_given at_most_one_star s.destination ≡ true
  -- with a destination both sides have a star or neither
  pub both-stars : present s.destination ≡ true → has_star s.source ≡ has_star s.destination
  -- without one only a negative and a push have a star
  pub lone-star : s.destination ≡ none → has_star s.source ≡ true → (is_negative s.mode or push op) ≡ true
  -- the sides pass the name rules, unless the source is exempt
  pub source-passes : (exempt op s or if_given side_passes s.source) ≡ true
  pub destination-passes : if_given side_passes s.destination ≡ true

-- every spec that is read is accepted so
abbrev pub ReadIsAccepted : Type 0
ReadIsAccepted = (op : ℕ) (t : Text) (s : Spec) → read_spec op t ≡ accepted s → AcceptedSpec op s

-- a push with a colon and a source has a destination
abbrev pub ColonHasDestination : Type 0
ColonHasDestination =
    (op : ℕ) (t : Text) (s : Spec)
    → read_spec op t ≡ accepted s
    → push op ≡ true
    → has_colon (sides_of (unsigned t)) ≡ true
    → present s.source ≡ true
    → present s.destination ≡ true

-- every spec of a list that is read is accepted so
abbrev pub GroupIsAccepted : Type 0
GroupIsAccepted = (op : ℕ) (specs : Text) (group : List Spec) → read_specs op specs ≡ accepted group → (s : Spec) → In s group → AcceptedSpec op s

-- an instruction is made of the sides of its spec: no text is made up for a source that is not there
pub record InstructionOfSides (op : ℕ) (s : Spec) : Type 0 where
  pub fetch-side : push op ≡ false → (src : Text) × (s.source ≡ some src) × (instruction op s ≡ fetch_instruction s.mode src s.destination)
  pub exclude-side : push op ≡ true → s.mode ≡ Negative → (src : Text) × (s.source ≡ some src) × (instruction op s ≡ push_exclude src)

-- so for every spec that is read
abbrev pub InstructionsOfSides : Type 0
InstructionsOfSides = (op : ℕ) (t : Text) (s : Spec) → read_spec op t ≡ accepted s → InstructionOfSides op s
