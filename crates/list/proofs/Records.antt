-- The records of a list from a place on: one, and those after it. Assumes nothing.
use mathlib.Core.Path.{◌≡◌, refl, sym, ◌∙◌}
use mathlib.Core.Bool.{Bool, true, false, cond}
use mathlib.Core.List.{List, [], ◌∷◌}
use mathlib.Core.Option.{none, some}
use Prim.Native.Nat.{ℕ, suc, ◌<◌, ◌≤◌}
use native.Mathlib.Omega.{arith}
use borrow.Author.Tests.{leb-true}
use lib.Dec.{leb}
use lib.ListN.{length, drop, length-drop, drop_of_length-le}
use Rattle.meaning.specs.Bytes.{Text}
use Rattle.meaning.specs.Spec.{Answer, accepted, refused}
use Rattle.meaning.specs.Number.{took, no, Reader}
use Rattle.meaning.specs.Lists.{with_first, record_then, records_from, read_list}
use Rattle.promises.specs.Facts.{records}
use Rattle.promises.proofs.Steps.{records-end, records-next, list-records}

-- a list that is accepted is within its limit
pub accepted-within : {A : Type 0} (limit : ℕ) (one : ℕ → Reader A) (s : Text) (l : List A) → read_list limit one s ≡ accepted l → length s ≤ limit
unfolding read_list
accepted-within limit one s l e = go (leb (length s) limit) refl e
  where
    go : (b : Bool) → leb (length s) limit ≡ b → cond b (records_from one (length s) 0 s) (refused 12 none) ≡ accepted l → length s ≤ limit
    go true h f = leb-true (length s) limit h
    go false h f = absurd (let z : ◌≡◌ {A = ℕ} 0 1 = cc in omega arith)

-- and its records are those of the whole
pub accepted-records : {A : Type 0} (limit : ℕ) (one : ℕ → Reader A) (s : Text) (l : List A) → read_list limit one s ≡ accepted l → records one 0 s ≡ accepted l
accepted-records limit one s l e = sym (list-records limit one s (accepted-within limit one s l e)) ∙ e

-- a record and those after it, where all are accepted
pub record First {A : Type 0} (a : A) (later : Answer (List A)) (l : List A) : Type 0 where
  pub after : List A
  pub is : l ≡ a ∷ after
  pub left : later ≡ accepted after

pub first_of : {A : Type 0} (a : A) (later : Answer (List A)) (l : List A) → with_first a later ≡ accepted l → First a later l
first_of a (accepted m) l e = let q : a ∷ m ≡ l = cc in record { after = m; is = sym q; left = refl }
first_of a (refused n r) l e = absurd (let z : ◌≡◌ {A = ℕ} 0 1 = cc in omega arith)

module _ {A : Type 0} (one : ℕ → Reader A) (shrinks : (i : ℕ) (s : Text) (a : A) (rest : Text) → one i s ≡ took a rest → length rest < length s) where
  next-record : (i : ℕ) (t : Text) → 0 < length t → records one i t ≡ record_then i (one i t) (λ rest. records one (suc i) rest)
  next-record i [] h = absurd (omega arith)
  next-record i (x ∷ t) h = records-next one shrinks i x t

  module _ (s : Text) (at i : ℕ) where
    -- at or past the end there are none
    pub records-past : length s ≤ at → records one i (drop at s) ≡ accepted []
    records-past h = rw (drop_of_length-le s h) (records-end one shrinks i)

    -- before the end there is one
    pub records-here : at < length s → records one i (drop at s) ≡ record_then i (one i (drop at s)) (λ rest. records one (suc i) rest)
    records-here h = let k : 0 < length (drop at s) = rw (length-drop at s) (omega arith) in next-record i (drop at s) k

    -- which is refused
    pub records-no : (n : ℕ) → at < length s → one i (drop at s) ≡ no n → records one i (drop at s) ≡ refused n (some i)
    records-no n h e = records-here h ∙ rw e

    -- or stands before those after it
    pub records-took : (a : A) (rest : Text) → at < length s → one i (drop at s) ≡ took a rest → records one i (drop at s) ≡ with_first a (records one (suc i) rest)
    records-took a rest h e = records-here h ∙ rw e
