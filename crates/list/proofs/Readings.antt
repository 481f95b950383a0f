-- A list that is being read, in numbers: those records that are behind and those that are left make the whole. Assumes nothing.
use mathlib.Core.Path.{◌≡◌, refl, sym, ap, ◌∙◌}
use mathlib.Core.List.{List}
use Prim.Native.Nat.{ℕ, suc, ◌+◌, ◌<◌, ◌≤◌}
use native.Mathlib.Omega.{arith}
use native.Mathlib.Numerals.{add-one}
use lib.ListN.{length, drop}
use Rattle.meaning.specs.Bytes.{Text}
use Rattle.meaning.specs.Spec.{Answer, accepted, refused}
use Rattle.meaning.specs.Buffers.{or_zero}
use Rattle.meaning.specs.Number.{took, no, Reader}
use Rattle.meaning.specs.Lists.{with_first}
use Rattle.promises.specs.Facts.{records}
use Rattle.std.specs.Prelude.{Result, Ok, Err}
use Rattle.refusal.specs.declared.Refusal.{Refusal}
use Rattle.list.specs.declared.refused.Refused.{Refused}
use Rattle.list.specs.Checked.{Checked, checked, numbered}
use Rattle.list.proofs.Records.{records-past, records-no, records-took}

-- what a numbered answer tells of the answer
pub numbered-ok : {A : Type 0} (w : Result A Refusal) (j : ℕ) (a : A) → numbered w j ≡ Ok a → w ≡ Ok a
numbered-ok (Ok b) j a e = let q : b ≡ a = cc in rw q
numbered-ok (Err x) j a e = absurd (let z : ◌≡◌ {A = ℕ} 0 1 = cc in omega arith)

pub record NumberedErr {A : Type 0} (w : Result A Refusal) (j : ℕ) (x : Refused) : Type 0 where
  pub is : w ≡ Err x.refusal
  pub number : x.«record» ≡ j

pub numbered-err : {A : Type 0} (w : Result A Refusal) (j : ℕ) (x : Refused) → numbered w j ≡ Err x → NumberedErr w j x
numbered-err (Ok b) j x e = absurd (let z : ◌≡◌ {A = ℕ} 0 1 = cc in omega arith)
numbered-err (Err r) j x e = let q : record { refusal = r; «record» = j } ≡ x = cc in record { is = ap (λ (y : Refused). Err y.refusal) q; number = sym (ap (λ (y : Refused). y.«record») q) }

-- an answer on the records that are left, where j are behind them
abbrev checked_after : {A : Type 0} → ℕ → Answer (List A) → Checked
checked_after j (accepted l) = record { refusal = 0; «record» = 0; count = j + length l }
checked_after j (refused n r) = record { refusal = n; «record» = or_zero r; count = 0 }

after_none : {A : Type 0} (a : Answer (List A)) → checked_after 0 a ≡ checked a
after_none (accepted l) = let e : 0 + length l ≡ length l = omega arith in rw e
after_none (refused n r) = refl

after_first : {A : Type 0} (j : ℕ) (x : A) (a : Answer (List A)) → checked_after j (with_first x a) ≡ checked_after (j + 1) a
after_first j x (accepted l) = let e : j + suc (length l) ≡ j + 1 + length l = omega arith in rw e
after_first j x (refused n r) = refl

-- a list is read as far as a place, with j records behind it
pub record Reading {A : Type 0} (one : ℕ → Reader A) (s : Text) (at j : ℕ) : Type 0 where
  pub within : at ≤ length s
  pub behind : j ≤ at
  pub whole : checked_after j (records one j (drop at s)) ≡ checked (records one 0 s)

module _ {A : Type 0} (one : ℕ → Reader A) (shrinks : (i : ℕ) (s : Text) (a : A) (rest : Text) → one i s ≡ took a rest → length rest < length s) (s : Text) where
  -- nothing is read yet
  pub reading-starts : Reading one s 0 0
  reading-starts = record { within = omega arith; behind = omega arith; whole = after_none (records one 0 s) }

  module _ (at j : ℕ) (w : Reading one s at j) where
    -- at the end all is read
    pub reading-whole : length s ≤ at → record { refusal = 0; «record» = 0; count = j } ≡ checked (records one 0 s)
    reading-whole h =
        let e : j + 0 ≡ j = omega arith in
        rw (records-past one shrinks s at j h, e) at w.whole

    module _ (here : at < length s) where
      -- a record is refused
      pub reading-refused : (n : ℕ) → one j (drop at s) ≡ no n → record { refusal = n; «record» = j; count = 0 } ≡ checked (records one 0 s)
      reading-refused n e = rw (records-no one shrinks s at j n here e) at w.whole

      -- one more record
      pub reading-more : (a : A) (next : ℕ) → one j (drop at s) ≡ took a (drop next s) → at < next → next ≤ length s → Reading one s next (j + 1)
      reading-more a next e on within = record {
        within = within;
        behind = omega (arith, w.behind);
        whole = ap (λ (k : ℕ). checked_after (j + 1) (records one k (drop next s))) (add-one j) ∙ sym (after_first j a (records one (suc j) (drop next s))) ∙ rw (records-took one shrinks s at j a (drop next s) here e) at w.whole;
      }
