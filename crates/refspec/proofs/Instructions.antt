-- The instruction as places, and that it means the meaning's. Assumes nothing.
use Prim.Native.Nat.{ℕ}
use mathlib.Core.Path.{◌≡◌, refl}
use mathlib.Core.Bool.{Bool, true, false, cond}
use Rattle.meaning.specs.Bytes.{Text}
use Rattle.meaning.specs.Spec.{is_negative, is_force, push}
use Rattle.meaning.specs.Instruction.{fetch_sides, fetch_instruction, push_sides, push_instruction, instruction}
use Rattle.parse.specs.declared.types.Mode as code
use Rattle.parse.specs.declared.types.Mode.TheVariants.{Normal, Force, Negative}
use Rattle.parse.specs.declared.types.Side.{Side}
use Rattle.parse.specs.declared.types.Side.TheVariants.{Absent, Part, Head}
use Rattle.parse.specs.declared.types.RefSpec.{RefSpec}
use Rattle.refspec.specs.declared.instruction.Instruction.TheVariants.{FetchExclude, PushExclude}
use Rattle.parse.specs.Places.{mode_meant, side_meant, spec_meant}
use Rattle.refspec.specs.Instructions.{side_text, fetch_places, push_places, instruction_places, instruction_meant}

module _ (t : Text) (f : Bool) (src : Side) where
  -- the places of a fetch mean it
  fetch-meant : (dst : Side) → instruction_meant t (fetch_places f src dst) ≡ fetch_sides f (side_text t src) (side_meant t dst)
  unfolding fetch_places
  fetch-meant Absent = refl
  fetch-meant (Part at n) = refl
  fetch-meant Head = refl

-- the places of a push mean it
push-meant : (t : Text) (f : Bool) (src dst : Side) → instruction_meant t (push_places f src dst) ≡ push_sides f (side_meant t src) (side_meant t dst)
unfolding push_places
push-meant t f Absent Absent = refl
push-meant t f Absent (Part at n) = refl
push-meant t f Absent Head = refl
push-meant t f (Part at n) Absent = refl
push-meant t f (Part at n) (Part bt m) = refl
push-meant t f (Part at n) Head = refl
push-meant t f Head Absent = refl
push-meant t f Head (Part at n) = refl
push-meant t f Head Head = refl

-- the places of an instruction mean the instruction
pub instruction-meant : (op : ℕ) (t : Text) (r : RefSpec) → instruction_meant t (instruction_places op r) ≡ instruction op (spec_meant t r)
unfolding instruction_places instruction spec_meant
instruction-meant op t r = go (push op) r.mode
  where
    go : (p : Bool) (m : code.Mode) → instruction_meant t (cond (is_negative (mode_meant m)) (cond p (PushExclude r.src) (FetchExclude r.src)) (cond p (push_places (is_force (mode_meant m)) r.src r.dst) (fetch_places (is_force (mode_meant m)) r.src r.dst))) ≡ cond p (push_instruction (mode_meant m) (side_meant t r.src) (side_meant t r.dst)) (fetch_instruction (mode_meant m) (side_text t r.src) (side_meant t r.dst))
    go true Negative = refl
    go false Negative = refl
    go true Normal = push-meant t false r.src r.dst
    go false Normal = fetch-meant t false r.src r.dst
    go true Force = push-meant t true r.src r.dst
    go false Force = fetch-meant t true r.src r.dst
