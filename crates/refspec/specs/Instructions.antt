-- The instruction of a spec as places, and the instruction that it means.
use Rattle.std.specs.Prelude.{ℕ, ◌≡◌, Bool, true, cond, Result, Ok, Err}
use Rattle.std.proofs.Math.Option.{none}
use Rattle.meaning.specs.Bytes.{Text, or_empty}
use Rattle.meaning.specs.Spec.{Answer, accepted, refused, is_negative, is_force, push}
use Rattle.meaning.specs.Instruction as meaning
use Rattle.parse.specs.declared.types.Side.{Side}
use Rattle.parse.specs.declared.types.RefSpec.{RefSpec}
use Rattle.refspec.specs.declared.instruction.Instruction.{Instruction}
use Rattle.refspec.specs.declared.instruction.Instruction.TheVariants.{FetchOnly, FetchExclude, FetchAndUpdate, PushAllMatchingBranches, PushDelete, PushMatching, PushExclude}
use Rattle.refusal.specs.declared.Refusal.{Refusal}
use Rattle.refusal.specs.Numbers.{number_of}
use Rattle.parse.specs.Places.{mode_meant, side_meant, is_present, parsed}

-- a fetch by its sides: no destination is fetch-only
unfoldable pub fetch_places : Bool → Side → Side → Instruction
fetch_places force src dst = cond (is_present dst) (FetchAndUpdate src dst force) (FetchOnly src)

-- a push by its sides: a source only is its own destination, a destination only is delete, neither is all matching branches
unfoldable pub push_places : Bool → Side → Side → Instruction
push_places force src dst =
    cond (is_present src) (PushMatching src (cond (is_present dst) dst src) force)
    (cond (is_present dst) (PushDelete dst) (PushAllMatchingBranches force))

-- the instruction of a spec
unfoldable pub instruction_places : ℕ → RefSpec → Instruction
instruction_places op r =
    cond (is_negative (mode_meant r.mode)) (cond (push op) (PushExclude r.src) (FetchExclude r.src))
    (cond (push op) (push_places (is_force (mode_meant r.mode)) r.src r.dst) (fetch_places (is_force (mode_meant r.mode)) r.src r.dst))

-- the sides that an instruction carries are there
abbrev pub SidesPresent : Instruction → Type 0
SidesPresent (FetchOnly src) = is_present src ≡ true
SidesPresent (FetchExclude src) = is_present src ≡ true
SidesPresent (FetchAndUpdate src dst force) = (is_present src ≡ true) × (is_present dst ≡ true)
SidesPresent (PushAllMatchingBranches force) = Unit {0}
SidesPresent (PushDelete dst) = is_present dst ≡ true
SidesPresent (PushMatching src dst force) = (is_present src ≡ true) × (is_present dst ≡ true)
SidesPresent (PushExclude src) = is_present src ≡ true

-- the text of a side, no bytes where it is absent
abbrev pub side_text : Text → Side → Text
side_text t side = or_empty (side_meant t side)

-- the instruction that places mean
abbrev pub instruction_meant : Text → Instruction → meaning.Instruction
instruction_meant t (FetchOnly src) = meaning.fetch_only (side_text t src)
instruction_meant t (FetchExclude src) = meaning.fetch_exclude (side_text t src)
instruction_meant t (FetchAndUpdate src dst force) = meaning.fetch_and_update (side_text t src) (side_text t dst) force
instruction_meant t (PushAllMatchingBranches force) = meaning.push_all_matching_branches force
instruction_meant t (PushDelete dst) = meaning.push_delete (side_text t dst)
instruction_meant t (PushMatching src dst force) = meaning.push_matching (side_text t src) (side_text t dst) force
instruction_meant t (PushExclude src) = meaning.push_exclude (side_text t src)

-- an answer of reading, as an instruction
abbrev pub instructed_by : ℕ → Result RefSpec Refusal → Result Instruction Refusal
instructed_by op (Ok r) = Ok (instruction_places op r)
instructed_by op (Err q) = Err q

-- what a spec instructs
unfoldable pub instructed_places : ℕ → Text → Result Instruction Refusal
instructed_places op t = instructed_by op (parsed op t)

-- what an answer means: the instruction, or the number of the question that refuses
abbrev pub instructed_meant : Text → Result Instruction Refusal → Answer meaning.Instruction
instructed_meant t (Ok i) = accepted (instruction_meant t i)
instructed_meant t (Err q) = refused (number_of q) none
