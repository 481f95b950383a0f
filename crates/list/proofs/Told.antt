-- What the code's answer on a list tells: accepted where it is a count, else refused. Assumes nothing.
use mathlib.Core.Path.{◌≡◌, refl, sym, ap, ◌∙◌}
use mathlib.Core.List.{List}
use mathlib.Core.Option.{Option}
use Prim.Native.Nat.{ℕ, ◌<◌}
use native.Mathlib.Omega.{arith}
use lib.ListN.{length}
use Rattle.meaning.specs.Bytes.{Text}
use Rattle.meaning.specs.Buffers.{or_zero}
use Rattle.meaning.specs.Spec.{Answer, accepted, refused}
use Rattle.meaning.specs.Lists.{read_specs, read_items}
use Rattle.meaning.specs.Rows.{read_rows}
use Rattle.std.specs.Prelude.{Result, Ok, Err}
use Rattle.refusal.specs.Numbers.{number_of}
use Rattle.refusal.proofs.Numbers.{number_of-positive}
use Rattle.list.specs.declared.refused.Refused.{Refused}
use Rattle.list.specs.Checked.{Checked, numbers_of, checked}
use Rattle.list.proofs.Refusals.{specs-refusal, items-refusal, rows-refusal}

-- the records that were accepted, so many
pub record Passed {A : Type 0} (a : Answer (List A)) (count : ℕ) : Type 0 where
  pub members : List A
  pub answer : a ≡ accepted members
  pub counted : count ≡ length members

-- a refusal, with the number that stands for its record's
pub record Failed {A : Type 0} (a : Answer A) (n record_number : ℕ) : Type 0 where
  pub carried : Option ℕ
  pub answer : a ≡ refused n carried
  pub number : record_number ≡ or_zero carried

module _ {A : Type 0} (a : Answer (List A)) (positive : (n : ℕ) (r : Option ℕ) → a ≡ refused n r → 0 < n) (c : Result ℕ Refused) (e : numbers_of c ≡ checked a) where
  passed : (k : ℕ) → c ≡ Ok k → Passed a k
  passed k z = go a refl
    where
      f : record { refusal = 0; «record» = 0; count = k } ≡ checked a
      f = ap numbers_of (sym z) ∙ e

      go : (x : Answer (List A)) → a ≡ x → Passed a k
      go (accepted l) q = record { members = l; answer = q; counted = ap (λ (i : Checked). i.count) (f ∙ ap checked q) }
      go (refused n r) q =
          let h = positive n r q in
          let i : 0 ≡ n = ap (λ (i : Checked). i.refusal) (f ∙ ap checked q) in
          absurd (omega arith)

  failed : (x : Refused) → c ≡ Err x → Failed a (number_of x.refusal) x.«record»
  failed x z = go a refl
    where
      f : record { refusal = number_of x.refusal; «record» = x.«record»; count = 0 } ≡ checked a
      f = ap numbers_of (sym z) ∙ e

      go : (y : Answer (List A)) → a ≡ y → Failed a (number_of x.refusal) x.«record»
      go (accepted l) q =
          let h = number_of-positive x.refusal in
          let i : number_of x.refusal ≡ 0 = ap (λ (i : Checked). i.refusal) (f ∙ ap checked q) in
          absurd (omega arith)
      go (refused n r) q =
          let i : number_of x.refusal ≡ n = ap (λ (i : Checked). i.refusal) (f ∙ ap checked q) in
          record { carried = r; answer = rw i q; number = ap (λ (i : Checked). i.«record») (f ∙ ap checked q) }

-- a spec list of which no spec is kept
module _ (op : ℕ) (s : Text) (c : Result ℕ Refused) (e : numbers_of c ≡ checked (read_specs op s)) where
  pub specs-passed : (k : ℕ) → c ≡ Ok k → Passed (read_specs op s) k
  specs-passed = passed (read_specs op s) (specs-refusal op s) c e

  pub specs-failed : (x : Refused) → c ≡ Err x → Failed (read_specs op s) (number_of x.refusal) x.«record»
  specs-failed = failed (read_specs op s) (specs-refusal op s) c e

-- an item list
module _ (s : Text) (c : Result ℕ Refused) (e : numbers_of c ≡ checked (read_items s)) where
  pub items-passed : (k : ℕ) → c ≡ Ok k → Passed (read_items s) k
  items-passed = passed (read_items s) (items-refusal s) c e

  pub items-failed : (x : Refused) → c ≡ Err x → Failed (read_items s) (number_of x.refusal) x.«record»
  items-failed = failed (read_items s) (items-refusal s) c e

-- a row list
module _ (specs : ℕ) (s : Text) (c : Result ℕ Refused) (e : numbers_of c ≡ checked (read_rows specs s)) where
  pub rows-passed : (k : ℕ) → c ≡ Ok k → Passed (read_rows specs s) k
  rows-passed = passed (read_rows specs s) (rows-refusal specs s) c e

  pub rows-failed : (x : Refused) → c ≡ Err x → Failed (read_rows specs s) (number_of x.refusal) x.«record»
  rows-failed = failed (read_rows specs s) (rows-refusal specs s) c e
