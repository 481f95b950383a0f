-- A text of any bytes in a record, and the front of a buffer as one. Assumes nothing.
use Prim.Native.Nat.{ℕ, ◌+◌, ◌-◌, ◌/◌, ◌%◌, ◌≤◌, ◌<◌}
use native.Mathlib.Omega.{arith}
use mathlib.Core.Path.{◌≡◌, refl, sym, ap, ◌∙◌}
use mathlib.Core.Bool.{Bool, true, false, cond}
use mathlib.Core.List.{◌∷◌, ◌++◌}
use borrow.Author.Tests.{leb-true, le-leb, lt-leb}
use lib.Dec.{leb}
use lib.ListN.{length, get_or, take, drop, take-append-drop, length-append, length-drop}
use lib.Seq.{drop-drop, length-take-le}
use Rattle.meaning.specs.Bytes.{Text}
use Rattle.text.proofs.Rests.{rest-cons}
use Rattle.std.specs.Prelude.{Option, Some, None}
use Rattle.recorded.specs.Record.{sized}
use Rattle.recorded.specs.Field.{field_at, LengthTold, TextStands, TextFound, front_at}
use Rattle.recorded.proofs.Fields.{text-size}

-- ---- a text of any bytes

module _ (s : Text) (at : ℕ) where
  -- the record ends before the length does
  pub text-none : length s - at < 2 → TextFound s at None
  unfolding sized
  text-none h t rest e = omega (arith, ap length e, length-append (sized t) rest, length-drop at s)

  module _ (n : ℕ) (l : LengthTold s at n) where
    -- its length in two bytes, then its bytes
    pub text-stands : at ≤ length s → n ≤ length s - at - 2 → TextFound s at (Some (at + 2 + n))
    unfolding sized
    text-stands h room =
        let t = take n (drop (at + 2) s) in
        let k : at + 2 + n - (at + 2) ≡ n = omega arith in
        let len : length t ≡ n = length-take-le n (drop (at + 2) s) (omega (arith, length-drop (at + 2) s)) in
        let a : length t % 256 ≡ get_or s at 0 = omega (arith, len, l.is, l.small) in
        let b : length t / 256 ≡ get_or s (at + 1) 0 = omega (arith, len, l.is, l.small) in
        let after : drop (at + 2) s ≡ t ++ drop (at + 2 + n) s = sym (take-append-drop n (drop (at + 2) s)) ∙ ap (λ (x : Text). t ++ x) (drop-drop n (at + 2) s) in
        let two-on : at + 1 + 1 ≡ at + 2 = omega arith in
        let is : drop at s ≡ get_or s at 0 ∷ get_or s (at + 1) 0 ∷ (t ++ drop (at + 2 + n) s) =
        rest-cons s at (omega (arith, l.room)) ∙ ap (λ (x : Text). get_or s at 0 ∷ x) (rest-cons s (at + 1) (omega (arith, l.room)) ∙ ap (λ (x : Text). get_or s (at + 1) 0 ∷ x) (ap (λ (i : ℕ). drop i s) two-on ∙ after)) in
        record { long = omega arith; stands = record { is = rw (k, a, b) is; within = omega (arith, l.room) } }

    -- the record ends before the text does
    pub text-cut : length s - at - 2 < n → TextFound s at None
    unfolding sized
    text-cut short t rest e =
        let x = text-size s at t rest e in
        let m : n ≡ length t = omega (arith, x.0, x.1, l.is) in
        omega (arith, ap length e, length-append (sized t) rest, length-drop at s)

  module _ (r : Option ℕ) (n : ℕ) (f : TextFound s at r) (e : r ≡ Some n) where
    pub text_at_lem : TextStands s at n
    text_at_lem = rw e at f

    pub text-within : n ≤ length s
    text-within = text_at_lem.stands.within

    pub text-long : at + 2 ≤ n
    text-long = text_at_lem.long

-- ---- the front of a buffer

module _ (s : Text) (at : ℕ) (out : Text) (size : ℕ) where
  -- the buffer has fewer bytes
  pub front-beyond : length out < size → None ≡ front_at s at out size
  unfolding front_at
  front-beyond h = rw (lt-leb size (length out) h)

  -- it has as many, and they decide
  pub front-within : size ≤ length out → (r : Option ℕ) → r ≡ field_at s at (sized (take size out)) → r ≡ front_at s at out size
  unfolding front_at
  front-within h r e = rw (le-leb size (length out) h) e

  module _ (r : Option ℕ) (f : r ≡ front_at s at out size) where
    pub front_fits : size ≤ length out → r ≡ field_at s at (sized (take size out))
    unfolding front_at
    front_fits h = rw (le-leb size (length out) h) at f

    -- what is found is in the buffer
    pub front-room : (n : ℕ) → r ≡ Some n → size ≤ length out
    unfolding front_at
    front-room n e = go (leb size (length out)) refl (sym e ∙ f)
      where
        go : (b : Bool) → leb size (length out) ≡ b → Some n ≡ cond b (field_at s at (sized (take size out))) None → size ≤ length out
        go true q z = leb-true size (length out) q
        go false q z = absurd (let w : ◌≡◌ {A = ℕ} 0 1 = cc in omega arith)
