-- What an answer says of the bytes: where a number stands, and that reading refuses where none does. Assumes nothing.
use mathlib.Core.Path.{◌≡◌, refl, sym, ap, ◌∙◌}
use mathlib.Core.Bool.{Bool, true, false, cond}
use mathlib.Core.List.{[], ◌∷◌}
use Prim.Native.Nat.{ℕ, zero, suc, ◌+◌, ◌-◌, ◌*◌, ◌<◌, ◌≤◌}
use native.Mathlib.Omega.{arith}
use lib.Dec.{eqb, ltb}
use lib.ListN.{length, drop, length-drop}
use lib.Seq.{drop-drop}
use Rattle.meaning.specs.Bytes.{Text}
use Rattle.meaning.specs.Limits.{number_groups}
use Rattle.meaning.specs.Number.{Step, took, no, step_then, group_before, read_groups, read_number}
use Rattle.number.specs.declared.Number.{Number}
use Rattle.number.specs.Reading.{number_placed, number_at}
use Rattle.std.specs.Prelude.{Option, Some, None}
use Rattle.std.specs.Option.{option_map_or}

-- a number that was read: its bytes stand from `at` to `next`
pub record Stands (s : Text) (at : ℕ) (x : Number) : Type 0 where
  pub from : at < x.next
  pub within : x.next ≤ length s
  pub reads : read_number (drop at s) ≡ took x.value (drop x.next s)

-- reading leaves the bytes after some of the first
record Leaves (t rest : Text) : Type 0 where
  passed : ℕ
  some : 0 < passed
  few : passed ≤ length t
  left : rest ≡ drop passed t

-- a refusal is no value
pub none-taken : {A : Type 0} (k n : ℕ) (rest : Text) → no k ≡ took n rest → A
none-taken k n rest e = absurd (let z : ◌≡◌ {A = ℕ} 0 1 = cc in omega arith)

before-leaves : (b m n : ℕ) (r rest : Text) → group_before b m r ≡ took n rest → r ≡ rest
before-leaves b m n r rest e = go (eqb m 0) e
  where
    go : (z : Bool) → cond z (no 13) (took (b - 128 + m * 128) r) ≡ took n rest → r ≡ rest
    go true g = none-taken 13 n rest g
    go false g = cc

leaves-more : (b : ℕ) (t r rest : Text) → r ≡ rest → Leaves t r → Leaves (b ∷ t) rest
leaves-more b t r rest e l = record { passed = suc l.passed; some = omega arith; few = omega (arith, l.few); left = sym e ∙ l.left }

leaves : (k : ℕ) (t : Text) (n : ℕ) (rest : Text) → read_groups k t ≡ took n rest → Leaves t rest
leaves zero t n rest e = none-taken 13 n rest e
leaves (suc k) [] n rest e = none-taken 13 n rest e
leaves (suc k) (b ∷ t) n rest e = go (leaves k t) (ltb b 128) e
  where
    Known : Type 0
    Known = (m : ℕ) (r : Text) → read_groups k t ≡ took m r → Leaves t r

    step : Known → (a : Step ℕ) → read_groups k t ≡ a → step_then a (group_before b) ≡ took n rest → Leaves (b ∷ t) rest
    step h (took m r) f g = leaves-more b t r rest (before-leaves b m n r rest g) (h m r f)
    step h (no j) f g = none-taken j n rest g

    go : Known → (z : Bool) → cond z (took b t) (step_then (read_groups k t) (group_before b)) ≡ took n rest → Leaves (b ∷ t) rest
    go h true g = let q : t ≡ rest = cc in record { passed = 1; some = omega arith; few = omega arith; left = sym q }
    go h false g = step h (read_groups k t) refl g

refuses : (k : ℕ) (t : Text) (j : ℕ) → read_groups k t ≡ no j → j ≡ 13
refuses zero t j e = cc
refuses (suc k) [] j e = cc
refuses (suc k) (b ∷ t) j e = go (refuses k t) (ltb b 128) e
  where
    before : (m : ℕ) (r : Text) (z : Bool) → cond z (no 13) (took (b - 128 + m * 128) r) ≡ no j → j ≡ 13
    before m r true g = cc
    before m r false g = none-taken j (b - 128 + m * 128) r (sym g)

    step : ((i : ℕ) → read_groups k t ≡ no i → i ≡ 13) → (a : Step ℕ) → read_groups k t ≡ a → step_then a (group_before b) ≡ no j → j ≡ 13
    step h (took m r) f g = before m r (eqb m 0) g
    step h (no i) f g = let q : i ≡ j = cc in sym q ∙ h i f

    go : ((i : ℕ) → read_groups k t ≡ no i → i ≡ 13) → (z : Bool) → cond z (took b t) (step_then (read_groups k t) (group_before b)) ≡ no j → j ≡ 13
    go h true g = none-taken j b t (sym g)
    go h false g = step h (read_groups k t) refl g

-- the parts of a number that was answered
abbrev value_or0 : Option Number → ℕ
value_or0 o = option_map_or (λ (x : Number). x.value) o 0

abbrev next_or0 : Option Number → ℕ
next_or0 o = option_map_or (λ (x : Number). x.next) o 0

-- where a number is answered, it stands there
pub number-stands : (s : Text) (at : ℕ) (x : Number) → number_at s at ≡ Some x → Stands s at x
unfolding number_at read_number
number-stands s at x e = go (read_groups number_groups (drop at s)) refl e
  where
    go : (a : Step ℕ) → read_groups number_groups (drop at s) ≡ a → number_placed s a ≡ Some x → Stands s at x
    go (no j) f g = absurd (let z : ◌≡◌ {A = ℕ} 0 1 = cc in omega arith)
    go (took m rest) f g =
        let p : m ≡ x.value = ap value_or0 g in
        let q : length s - length rest ≡ x.next = ap next_or0 g in
        let l = leaves number_groups (drop at s) m rest f in
        let r : rest ≡ drop (at + l.passed) s = l.left ∙ drop-drop l.passed at s in
        let few : l.passed ≤ length s - at = rw (length-drop at s) at l.few in
        let len : length rest ≡ length s - (at + l.passed) = ap length r ∙ length-drop (at + l.passed) s in
        let some : 0 < l.passed = l.some in
        let here : x.next ≡ at + l.passed = omega arith in
        record { from = omega arith; within = omega arith; reads = rw (here, ← p, ← r) f }

-- where none is, reading refuses
pub number-none : (s : Text) (at : ℕ) → number_at s at ≡ None → read_number (drop at s) ≡ no 13
unfolding number_at read_number
number-none s at e = go (read_groups number_groups (drop at s)) refl e
  where
    go : (a : Step ℕ) → read_groups number_groups (drop at s) ≡ a → number_placed s a ≡ None → read_groups number_groups (drop at s) ≡ no 13
    go (took m rest) f g = absurd (let z : ◌≡◌ {A = ℕ} 0 1 = cc in omega arith)
    go (no j) f g = f ∙ ap (λ (i : ℕ). no i) (refuses number_groups (drop at s) j f)
