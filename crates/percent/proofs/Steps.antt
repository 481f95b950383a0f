-- One step of reading a text in print. Assumes nothing.
use mathlib.Core.Path.{◌≡◌, refl, sym, ap, ◌∙◌}
use mathlib.Core.Bool.{Bool, true, false, cond}
use mathlib.Core.Logic.{◌⊎◌, inl, inr}
use mathlib.Core.List.{◌∷◌}
use Prim.Native.Nat.{ℕ, ◌+◌, ◌-◌, ◌*◌, ◌<◌, ◌≤◌}
use native.Mathlib.Omega.{arith}
use borrow.Author.Tests.{ltb-true, ltb-false, lt-ltb}
use Rattle.std.specs.Prelude.{Option, Some, None}
use lib.Dec.{ltb}
use lib.ListN.{length, get_or, drop, length-drop}
use Rattle.meaning.specs.Bytes.{Text, ◌and◌}
use Rattle.text.proofs.Rests.{rest-cons}
use Rattle.text.proofs.Scans.{byte-is, byte-other}
use Rattle.print.specs.Lines.{printable}
use Rattle.print.specs.Unshown.{fault, digit_value, escape, escaped, unshown_bytes}
use Rattle.print.proofs.Unshown.{unshown-plain, unshown-escape, unshown-short, unshown-bad}
use Rattle.percent.specs.declared.Shown.{Shown}
use Rattle.percent.specs.Decode.{digit_of, byte_of, StepsOver}

-- what was answered of a digit
digit-some : (b v : ℕ) → digit_of b ≡ Some v → (digit_value b ≡ v) × (v < 16)
unfolding digit_of
digit-some b v e = go (ltb (digit_value b) 16) refl e
  where
    go : (t : Bool) → ltb (digit_value b) 16 ≡ t → cond t (Some (digit_value b)) None ≡ Some v → (digit_value b ≡ v) × (v < 16)
    go true f g = let q : digit_value b ≡ v = cc in (q, rw q at (ltb-true (digit_value b) 16 f))
    go false f g = cc

digit-none : (b : ℕ) → digit_of b ≡ None → ltb (digit_value b) 16 ≡ false
unfolding digit_of
digit-none b e = go (ltb (digit_value b) 16) refl e
  where
    go : (t : Bool) → ltb (digit_value b) 16 ≡ t → cond t (Some (digit_value b)) None ≡ None → ltb (digit_value b) 16 ≡ false
    go true f g = cc
    go false f g = f

pub digit-small : (b v : ℕ) (o : Option ℕ) → o ≡ digit_of b → o ≡ Some v → v < 16
digit-small b v o e y = (digit-some b v (sym e ∙ y)).1

-- two digits
module _ (h l : ℕ) where
  pub byte-no-high : (o : Option ℕ) → o ≡ digit_of h → o ≡ None → None ≡ byte_of h l
  unfolding byte_of
  byte-no-high o e n = rw (digit-none h (sym e ∙ n))

  module _ (v : ℕ) (o : Option ℕ) (e : o ≡ digit_of h) (y : o ≡ Some v) where
    high-is : ltb (digit_value h) 16 ≡ true
    high-is = let d = digit-some h v (sym e ∙ y) in rw (d.0, lt-ltb v 16 d.1)

    pub byte-no-low : (p : Option ℕ) → p ≡ digit_of l → p ≡ None → None ≡ byte_of h l
    unfolding byte_of
    byte-no-low p f n = rw (high-is, digit-none l (sym f ∙ n))

    pub byte-both : (w : ℕ) (p : Option ℕ) → p ≡ digit_of l → p ≡ Some w → Some (16 * v + w) ≡ byte_of h l
    unfolding byte_of escaped
    byte-both w p f z =
        let a = digit-some h v (sym e ∙ y) in
        let b = digit-some l w (sym f ∙ z) in
        rw (a.0, b.0, lt-ltb v 16 a.1, lt-ltb w 16 b.1)

-- `%` and what follows it
escape-none : (h l : ℕ) → byte_of h l ≡ None → (ltb (digit_value h) 16 and ltb (digit_value l) 16) ≡ false
unfolding byte_of
escape-none h l e = go (ltb (digit_value h) 16 and ltb (digit_value l) 16) refl e
  where
    go : (t : Bool) → (ltb (digit_value h) 16 and ltb (digit_value l) 16) ≡ t → cond t (Some (escaped h l)) None ≡ None → (ltb (digit_value h) 16 and ltb (digit_value l) 16) ≡ false
    go true f g = cc
    go false f g = f

escape-some : (h l v : ℕ) → byte_of h l ≡ Some v → ((ltb (digit_value h) 16 and ltb (digit_value l) 16) ≡ true) × (escaped h l ≡ v)
unfolding byte_of
escape-some h l v e = go (ltb (digit_value h) 16 and ltb (digit_value l) 16) refl e
  where
    go : (t : Bool) → (ltb (digit_value h) 16 and ltb (digit_value l) 16) ≡ t → cond t (Some (escaped h l)) None ≡ Some v → ((ltb (digit_value h) 16 and ltb (digit_value l) 16) ≡ true) × (escaped h l ≡ v)
    go true f g = let q : escaped h l ≡ v = cc in (f, q)
    go false f g = cc

module _ (x h l : ℕ) where
  pub sign-bad : (x ≡ 37 → ⊥) → escape x h l ≡ false
  unfolding escape
  sign-bad n = rw (byte-other x 37 n)

  pub escape-bad : x ≡ 37 → byte_of h l ≡ None → escape x h l ≡ false
  unfolding escape
  escape-bad e n = rw (byte-is x 37 e) (escape-none h l n)

  pub escape-good : x ≡ 37 → (v : ℕ) → byte_of h l ≡ Some v → (escape x h l ≡ true) × (escaped h l ≡ v)
  unfolding escape
  escape-good e v y = let d = escape-some h l v y in (rw (byte-is x 37 e) d.0, d.1)

-- what is shown from a place on
module _ (t : Text) (i : ℕ) (within : i < length t) (p : Bool) (ep : p ≡ printable (get_or t i 0)) where
  pub step-plain : p ≡ true → StepsOver (drop i t) (record { byte = get_or t i 0; width = 1 })
  step-plain y = rw (rest-cons t i within) (record { some = omega arith; within = omega arith; makes = unshown-plain (get_or t i 0) (drop (i + 1) t) (sym ep ∙ y) })

  module _ (n : p ≡ false) where
    pub step-short : length t - i < 3 → unshown_bytes (drop i t) ≡ fault 0
    step-short h = rw (rest-cons t i within) (unshown-short (get_or t i 0) (drop (i + 1) t) (sym ep ∙ n) (rw length-drop (omega arith)))

    module _ (long : 3 ≤ length t - i) where
      three : drop i t ≡ get_or t i 0 ∷ get_or t (i + 1) 0 ∷ get_or t (i + 2) 0 ∷ drop (i + 3) t
      three =
          let a : i + 1 + 1 ≡ i + 2 = omega arith in
          let b : i + 2 + 1 ≡ i + 3 = omega arith in
          rest-cons t i within ∙ ap (λ (s : Text). get_or t i 0 ∷ s) (rest-cons t (i + 1) (omega arith) ∙ rw a (ap (λ (s : Text). get_or t (i + 1) 0 ∷ s) (rest-cons t (i + 2) (omega arith) ∙ rw b)))

      bad : escape (get_or t i 0) (get_or t (i + 1) 0) (get_or t (i + 2) 0) ≡ false → unshown_bytes (drop i t) ≡ fault 0
      bad y = rw three (unshown-bad (get_or t i 0) (get_or t (i + 1) 0) (get_or t (i + 2) 0) (drop (i + 3) t) (sym ep ∙ n) y)

      module _ (e : get_or t i 0 ≡ 37) (o : Option ℕ) (eo : o ≡ byte_of (get_or t (i + 1) 0) (get_or t (i + 2) 0)) where
        pub step-bad : o ≡ None → unshown_bytes (drop i t) ≡ fault 0
        step-bad y = bad (escape-bad _ _ _ e (sym eo ∙ y))

        pub step-escape : (v : ℕ) → o ≡ Some v → StepsOver (drop i t) (record { byte = v; width = 3 })
        step-escape v y =
            let d = escape-good (get_or t i 0) _ _ e v (sym eo ∙ y) in
            rw (three, ← d.1) (record { some = omega arith; within = omega arith; makes = unshown-escape (get_or t i 0) (get_or t (i + 1) 0) (get_or t (i + 2) 0) (drop (i + 3) t) d.0 })

    -- it is not `%`
    pub step-unsigned : (get_or t i 0 ≡ 37 → ⊥) → unshown_bytes (drop i t) ≡ fault 0
    step-unsigned u = go (ltb (length t - i) 3) refl
      where
        go : (b : Bool) → ltb (length t - i) 3 ≡ b → unshown_bytes (drop i t) ≡ fault 0
        go true f = step-short (ltb-true (length t - i) 3 f)
        go false f = bad (ltb-false (length t - i) 3 f) (sign-bad _ _ _ u)

    pub step-none : (get_or t i 0 ≡ 37 → ⊥) ⊎ (length t - i < 3) → unshown_bytes (drop i t) ≡ fault 0
    step-none (inl u) = step-unsigned u
    step-none (inr h) = step-short h

-- a step ends within the text
pub step-within : (t : Text) (i : ℕ) (b : Shown) → i < length t → StepsOver (drop i t) b → i + b.width ≤ length t
step-within t i b h s = omega (arith, s.within, length-drop i t)
