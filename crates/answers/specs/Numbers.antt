-- The numbers of the C interface for each case of each answer. A field without a meaning is 0.
use Rattle.std.specs.Prelude.{ℕ, Bool, true, false, Result, Ok, Err}
use Rattle.parse.specs.declared.types.Mode.{Mode}
use Rattle.parse.specs.declared.types.Mode.TheVariants.{Normal, Force, Negative}
use Rattle.parse.specs.declared.types.Side.{Side}
use Rattle.parse.specs.declared.types.Side.TheVariants.{Absent, Part, Head}
use Rattle.parse.specs.declared.types.RefSpec.{RefSpec}
use Rattle.refusal.specs.declared.Refusal.{Refusal}
use Rattle.refusal.specs.Numbers.{number_of}
use Rattle.refspec.specs.declared.instruction.Instruction.{Instruction}
use Rattle.refspec.specs.declared.instruction.Instruction.TheVariants.{FetchOnly, FetchExclude, FetchAndUpdate, PushAllMatchingBranches, PushDelete, PushMatching, PushExclude}
use Rattle.answers.specs.declared.SideAnswer.{SideAnswer}
use Rattle.answers.specs.declared.SpecAnswer.{SpecAnswer}
use Rattle.answers.specs.declared.InstructionAnswer.{InstructionAnswer}
use Rattle.answers.specs.declared.PrefixAnswer.{PrefixAnswer}

-- the number of a mode: 0 normal, 1 force, 2 negative
abbrev pub mode_number : Mode → ℕ
mode_number Normal = 0
mode_number Force = 1
mode_number Negative = 2

-- a side by its three numbers
abbrev pub side_numbers : ℕ → ℕ → ℕ → SideAnswer
side_numbers kind start length = record { kind = kind; start = start; length = length }

-- a side: 0 absent, 1 a place in the spec, 2 the supplied `HEAD`
abbrev pub side_answer : Side → SideAnswer
side_answer Absent = side_numbers 0 0 0
side_answer (Part at n) = side_numbers 1 at n
side_answer Head = side_numbers 2 0 0

-- 1 where a non-fast-forward is allowed
abbrev pub flag_number : Bool → ℕ
flag_number true = 1
flag_number false = 0

-- a spec that is refused
abbrev pub spec_refused : ℕ → SpecAnswer
spec_refused n = record { refusal = n; mode = 0; source = side_answer Absent; destination = side_answer Absent }

-- a spec that is accepted
abbrev pub spec_accepted : RefSpec → SpecAnswer
spec_accepted r = record { refusal = 0; mode = mode_number r.mode; source = side_answer r.src; destination = side_answer r.dst }

-- what reading answers
abbrev pub spec_answer : Result RefSpec Refusal → SpecAnswer
spec_answer (Ok r) = spec_accepted r
spec_answer (Err q) = spec_refused (number_of q)

-- an instruction that is refused
abbrev pub instruction_refused : ℕ → InstructionAnswer
instruction_refused n = record { refusal = n; kind = 0; force = 0; source = side_answer Absent; destination = side_answer Absent }

-- an instruction by its kind, its force and its sides
abbrev pub instruction_told : ℕ → Bool → Side → Side → InstructionAnswer
instruction_told kind force src dst =
    record { refusal = 0; kind = kind; force = flag_number force; source = side_answer src; destination = side_answer dst }

-- the kinds of the instructions; a side that a kind has not is absent
abbrev pub instruction_accepted : Instruction → InstructionAnswer
instruction_accepted (FetchOnly src) = instruction_told 0 false src Absent
instruction_accepted (FetchExclude src) = instruction_told 1 false src Absent
instruction_accepted (FetchAndUpdate src dst force) = instruction_told 2 force src dst
instruction_accepted (PushAllMatchingBranches force) = instruction_told 3 force Absent Absent
instruction_accepted (PushDelete dst) = instruction_told 4 false Absent dst
instruction_accepted (PushMatching src dst force) = instruction_told 5 force src dst
instruction_accepted (PushExclude src) = instruction_told 6 false src Absent

-- what an instruction answers
abbrev pub instruction_answer : Result Instruction Refusal → InstructionAnswer
instruction_answer (Ok i) = instruction_accepted i
instruction_answer (Err q) = instruction_refused (number_of q)

-- a prefix that is refused
abbrev pub prefix_refused : ℕ → PrefixAnswer
prefix_refused n = record { refusal = n; prefix = side_answer Absent }

-- the place of a prefix; absent where there is none
abbrev pub prefix_accepted : Side → PrefixAnswer
prefix_accepted side = record { refusal = 0; prefix = side_answer side }

-- what a prefix answers
abbrev pub prefix_answer : Result Side Refusal → PrefixAnswer
prefix_answer (Ok side) = prefix_accepted side
prefix_answer (Err q) = prefix_refused (number_of q)
