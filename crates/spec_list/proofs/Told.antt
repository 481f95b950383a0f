-- What a group that was read tells: accepted where it is a group, else refused. Assumes nothing.
use mathlib.Core.Path.{◌≡◌, refl}
use mathlib.Core.List.{List}
use Rattle.meaning.specs.Bytes.{Text}
use Rattle.meaning.specs.Spec.{Answer, accepted, refused, Spec}
use Rattle.std.specs.Prelude.{Result, Ok, Err}
use Rattle.refusal.specs.Numbers.{number_of}
use Rattle.list.specs.declared.refused.Refused.{Refused}
use Rattle.list.proofs.Told.{Failed}
use Rattle.spec_list.specs.declared.Group.{Group}
use Rattle.spec_list.specs.Group.{GroupIs, GroupRead}

-- the specs that were accepted, as a group holds them
pub record GroupPassed (s : Text) (g : Group) (a : Answer (List Spec)) : Type 0 where
  pub members : List Spec
  pub answer : a ≡ accepted members
  pub is : GroupIs s g members

-- a spec list
module _ (s : Text) (v : Result Group Refused) (a : Answer (List Spec)) (r : GroupRead s v a) where
  pub group-passed : (g : Group) → v ≡ Ok g → GroupPassed s g a
  group-passed g e = go a refl (rw e at r)
    where
      go : (b : Answer (List Spec)) → a ≡ b → GroupRead s (Ok g) a → GroupPassed s g a
      go (accepted l) f h = record { members = l; answer = f; is = rw f at h }
      go (refused n q) f h = absurd (rw f at h)

  pub group-failed : (x : Refused) → v ≡ Err x → Failed a (number_of x.refusal) x.«record»
  group-failed x e = go a refl (rw e at r)
    where
      go : (b : Answer (List Spec)) → a ≡ b → GroupRead s (Err x) a → Failed a (number_of x.refusal) x.«record»
      go (accepted l) f h = absurd (rw f at h)
      go (refused n q) f h = let k : GroupRead s (Err x) (refused n q) = rw f at h in record { carried = q; answer = rw k.number f; number = k.carried }
