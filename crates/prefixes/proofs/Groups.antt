-- A group's prefix list, from what reading its spec list answers. Assumes nothing.
use Prim.Native.Nat.{ℕ, ◌≤◌}
use native.Mathlib.Omega.{arith}
use mathlib.Core.Path.{◌≡◌, refl}
use mathlib.Core.Bool.{Bool, true, false, cond}
use mathlib.Core.List.{List, [], ◌∷◌}
use mathlib.Core.Option.{Option, none, some}
use borrow.Author.Tests.{leb-true}
use lib.Dec.{leb}
use lib.ListN.{length, take}
use Rattle.meaning.specs.Bytes.{Text}
use Rattle.meaning.specs.Limits.{spec_list_bytes, spec_count}
use Rattle.meaning.specs.Spec.{Answer, accepted, refused, Spec}
use Rattle.meaning.specs.Number.{record_bytes}
use Rattle.meaning.specs.Lists.{records_from, spec_record, read_list, read_specs}
use Rattle.meaning.specs.Prefix.{GroupPrefixes}
use Rattle.meaning.specs.Buffers.{MeetsOne}
use Rattle.meaning.specs.Entries.{◌and_then◌, GroupPrefixBytes, IsGroupPrefixes}
use Rattle.buffer.specs.declared.written.Written.{Written}
use Rattle.buffer.specs.Answers.{refused_with}
use Rattle.buffer.proofs.Meets.{made-refused}
use Rattle.std.specs.Prelude.{Result, Ok, Err}
use Rattle.refusal.specs.Numbers.{number_of}
use Rattle.list.specs.declared.refused.Refused.{Refused}
use Rattle.spec_list.specs.declared.Group.{Group}
use Rattle.spec_list.specs.Group.{group_meant, AllWithin, GroupRead}
use Rattle.spec_list.proofs.Told.{GroupPassed, group-passed, group-failed}
use Rattle.prefixes.specs.Group.{group_texts, group_prefixes, MeetsPrefixes}
use Rattle.prefixes.proofs.Distinct.{distinct-prefixes}

-- a group's texts are its prefix list
texts-are : (op : ℕ) (group : List Spec) → GroupPrefixes op group (group_texts op group)
unfolding group_texts
texts-are op group = distinct-prefixes op group

-- a spec list that was accepted is not longer than one may be
list-short : (op : ℕ) (specs : Text) (group : List Spec) → read_specs op specs ≡ accepted group → length specs ≤ spec_list_bytes
unfolding read_specs read_list
list-short op specs group e = go (leb op 1) (leb (length specs) spec_list_bytes) refl e
  where
    go : (a b : Bool) → leb (length specs) spec_list_bytes ≡ b → cond a (cond b (records_from (spec_record op) (length specs) 0 specs) (refused 12 none)) (refused 18 none) ≡ accepted group → length specs ≤ spec_list_bytes
    go true true h q = leb-true (length specs) spec_list_bytes h
    go true false h q = absurd (let z : ◌≡◌ {A = ℕ} 0 1 = cc in omega arith)
    go false b h q = absurd (let z : ◌≡◌ {A = ℕ} 0 1 = cc in omega arith)

-- the answer on a refused list, and on an accepted one
refused-is : (op : ℕ) (specs : Text) (n : ℕ) (r : Option ℕ) → read_specs op specs ≡ refused n r → group_prefixes op specs ≡ refused n r
unfolding group_prefixes
refused-is op specs n r e = rw e

accepted-is : (op : ℕ) (specs : Text) (group : List Spec) → read_specs op specs ≡ accepted group → group_prefixes op specs ≡ accepted (some (record_bytes (group_texts op group)) ∷ [])
unfolding group_prefixes
accepted-is op specs group e = rw e

-- it is the group's prefix list
pub prefixes-are : (op : ℕ) (specs : Text) → IsGroupPrefixes op specs (group_prefixes op specs)
unfolding IsGroupPrefixes group_prefixes
prefixes-are op specs = go (read_specs op specs)
  where
    go : (a : Answer (List Spec)) → GroupPrefixBytes op a (a and_then λ group. accepted (some (record_bytes (group_texts op group)) ∷ []))
    go (refused n r) = refl
    go (accepted group) = (group_texts op group, texts-are op group, refl)

-- so a call that answers it does what document 01 says
pub prefixes-meet : (op : ℕ) (specs entry exit : Text) (refusal record_number size : ℕ) → MeetsOne (group_prefixes op specs) entry exit refusal record_number size → MeetsPrefixes op specs entry exit refusal record_number size
prefixes-meet op specs entry exit refusal record_number size m = record { answer = group_prefixes op specs; is = prefixes-are op specs; meets = m }

module _ (op : ℕ) (specs : Text) (v : Result Group Refused) (r : GroupRead specs v (read_specs op specs)) (entry : Text) where
  -- a refused list leaves the buffer as it was
  pub group-refused : (x : Refused) → v ≡ Err x → (k : ℕ) → k ≡ number_of x.refusal → (w : Written) → w ≡ refused_with k x.«record» → MeetsOne (group_prefixes op specs) entry entry w.refusal w.«record» w.length
  group-refused x z k ek w e =
      let f = group-failed specs v (read_specs op specs) r x z in
      made-refused (group_prefixes op specs) entry (number_of x.refusal) f.carried x.«record» w (refused-is op specs (number_of x.refusal) f.carried f.answer) f.number (rw (← ek) e)

  module _ (g : Group) (z : v ≡ Ok g) where
    passed : GroupPassed specs g (read_specs op specs)
    passed = group-passed specs v (read_specs op specs) r g z

    -- an accepted one has at most so many specs
    pub group-count : g.count ≤ spec_count
    group-count = passed.is.count-within

    -- whose sides stand within it
    pub group-within : AllWithin (length specs) (take g.count g.specs)
    group-within = passed.is.within

    -- and is short
    pub group-short : length specs ≤ spec_list_bytes
    group-short = list-short op specs passed.members passed.answer

    -- its texts are its prefix list
    pub group-accepted : (exit : Text) (a b c : ℕ) → MeetsOne (accepted (some (record_bytes (group_texts op (group_meant specs (take g.count g.specs)))) ∷ [])) entry exit a b c → MeetsOne (group_prefixes op specs) entry exit a b c
    group-accepted exit a b c m = rw (accepted-is op specs passed.members passed.answer) (rw passed.is.means at m)
