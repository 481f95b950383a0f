-- Why the cases that the crate's `instruction` calls unreachable cannot be: the sides that an instruction carries are there. Assumes nothing.
use Prim.Native.Nat.{ℕ, zero, suc, ◌≤◌}
use native.Mathlib.Omega.{arith}
use mathlib.Core.Path.{◌≡◌, refl, sym}
use Rattle.std.specs.Prelude.{Result, Ok, Err}
use mathlib.Core.Bool.{Bool, true, false, cond}
use Rattle.meaning.specs.Bytes.{Text}
use Rattle.meaning.specs.Spec.{is_negative, is_force, push}
use Rattle.promises.proofs.Accepted.{read-is-accepted}
use Rattle.parse.specs.declared.types.Side.{Side}
use Rattle.parse.specs.declared.types.RefSpec.{RefSpec}
use Rattle.refusal.specs.declared.Refusal.{Refusal}
use Rattle.parse.specs.Places.{mode_meant, is_present, spec_meant, parsed}
use Rattle.parse.proofs.Answers.{read-accepted}
use Rattle.parse.proofs.Reachable.{fetch-has-source, negative-has-source}
use Rattle.refspec.specs.declared.instruction.Instruction.{Instruction}
use Rattle.refspec.specs.declared.instruction.Instruction.TheVariants.{FetchOnly, FetchExclude, FetchAndUpdate, PushAllMatchingBranches, PushDelete, PushMatching, PushExclude}
use Rattle.refspec.specs.Instructions.{fetch_places, push_places, instruction_places, SidesPresent, instructed_by, instructed_places}

module _ (f : Bool) (src dst : Side) where
  -- a fetch with a source carries what is there
  fetch-present : is_present src ≡ true → SidesPresent (fetch_places f src dst)
  unfolding fetch_places
  fetch-present h = go (is_present dst) refl
    where
      go : (b : Bool) → is_present dst ≡ b → SidesPresent (cond b (FetchAndUpdate src dst f) (FetchOnly src))
      go true e = (h, e)
      go false e = h

  -- so does every push
  push-present : SidesPresent (push_places f src dst)
  unfolding push_places
  push-present = go (is_present src) (is_present dst) refl refl
    where
      go : (a b : Bool) → is_present src ≡ a → is_present dst ≡ b → SidesPresent (cond a (PushMatching src (cond b dst src) f) (cond b (PushDelete dst) (PushAllMatchingBranches f)))
      go true true ea eb = (ea, eb)
      go true false ea eb = (ea, ea)
      go false true ea eb = eb
      go false false ea eb = tt

-- an operation that is not push is fetch
is-fetch : (op : ℕ) → op ≤ 1 → push op ≡ false → op ≡ 0
is-fetch zero h e = refl
is-fetch (suc zero) h e = absurd cc
is-fetch (suc (suc k)) h e = absurd (omega arith)

-- the instruction of an accepted spec carries sides that are there
module _ (op : ℕ) (t : Text) (r : RefSpec) (e : parsed op t ≡ Ok r) where
  at-most-push : op ≤ 1
  at-most-push = (read-is-accepted op t (spec_meant t r) (read-accepted op t (parsed op t) refl r e)).operation

  places-present : SidesPresent (instruction_places op r)
  unfolding instruction_places
  places-present = go (is_negative (mode_meant r.mode)) (push op) refl refl
    where
      go : (a b : Bool) → is_negative (mode_meant r.mode) ≡ a → push op ≡ b → SidesPresent (cond a (cond b (PushExclude r.src) (FetchExclude r.src)) (cond b (push_places (is_force (mode_meant r.mode)) r.src r.dst) (fetch_places (is_force (mode_meant r.mode)) r.src r.dst)))
      go true true ea eb = negative-has-source op t r e ea
      go true false ea eb = negative-has-source op t r e ea
      go false true ea eb = push-present (is_force (mode_meant r.mode)) r.src r.dst
      go false false ea eb = fetch-present (is_force (mode_meant r.mode)) r.src r.dst (fetch-has-source op t r e (is-fetch op at-most-push eb))

-- every instruction that is answered carries sides that are there
pub instructed-present : (op : ℕ) (t : Text) (i : Instruction) → instructed_places op t ≡ Ok i → SidesPresent i
unfolding instructed_places
instructed-present op t i = go (parsed op t) refl
  where
    go : (p : Result RefSpec Refusal) → parsed op t ≡ p → instructed_by op p ≡ Ok i → SidesPresent i
    go (Ok r) ep h = let s : instruction_places op r ≡ i = cc in rw (sym s) (places-present op t r ep)
    go (Err q) ep h = absurd cc
