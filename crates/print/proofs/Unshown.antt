-- A text in print stands for the text again, byte by byte. Assumes nothing.
use mathlib.Core.Path.{◌≡◌, refl, ap, ◌∙◌}
use mathlib.Core.Bool.{Bool, true, false, cond}
use mathlib.Core.List.{[], ◌∷◌, ◌++◌}
use Prim.Native.Nat.{ℕ, ◌+◌, ◌*◌, ◌/◌, ◌%◌, ◌<◌}
use native.Mathlib.Omega.{arith}
use borrow.Author.Tests.{ltb-true, ltb-false, lt-ltb, le-leb, lt-leb, eqb-true}
use lib.Dec.{eqb, ltb}
use lib.ListN.{length}
use Rattle.meaning.specs.Bytes.{Text, ◌and◌, every, each}
use Rattle.meaning.specs.Deliveries.{capital_digit, shown_byte, shown}
use Rattle.promises.specs.Facts.{is_byte}
use Rattle.promises.proofs.Laws.{and_left, and_right}
use Rattle.print.specs.Lines.{printable}
use Rattle.print.specs.Unshown.{stands, fault, before, after, digit_value, escape, escaped, as_it_is, unshown_bytes, ShownBack}

-- the digit of a number below 16 stands for the number
digit-back : (n : ℕ) → n < 16 → digit_value (capital_digit n) ≡ n
unfolding digit_value
digit-back n h = go (ltb n 10) refl
  where
    go : (b : Bool) → ltb n 10 ≡ b → digit_value (cond b (48 + n) (55 + n)) ≡ n
    go true e = let p = ltb-true n 10 e in rw (le-leb 48 (48 + n) (omega arith), le-leb (48 + n) 57 (omega arith)) (omega arith)
    go false e = let p = ltb-false n 10 e in rw (le-leb 48 (55 + n) (omega arith), lt-leb (55 + n) 57 (omega arith), le-leb 65 (55 + n) (omega arith), le-leb (55 + n) 70 (omega arith)) (omega arith)

-- what is printed as it is begins no escape
plain-no-escape : (x h l : ℕ) → printable x ≡ true → escape x h l ≡ false
unfolding escape
plain-no-escape x h l p = go (eqb 37 x) refl
  where
    go : (b : Bool) → eqb 37 x ≡ b → (b and ltb (digit_value h) 16 and ltb (digit_value l) 16) ≡ false
    go false e = refl
    go true e = absurd (let f : printable 37 ≡ true = rw (← eqb-true 37 x e) at p in let z : ◌≡◌ {A = ℕ} 0 1 = cc in omega arith)

-- a byte that is printed as it is, before any others
pub unshown-plain : (x : ℕ) (s : Text) → printable x ≡ true → unshown_bytes (x ∷ s) ≡ before x 1 (unshown_bytes s)
unfolding as_it_is
unshown-plain x [] p = rw p
unshown-plain x (h ∷ []) p = rw p
unshown-plain x (h ∷ (l ∷ s)) p = rw (plain-no-escape x h l p, p)

-- an escape before any others
pub unshown-escape : (x h l : ℕ) (s : Text) → escape x h l ≡ true → unshown_bytes (x ∷ h ∷ l ∷ s) ≡ before (escaped h l) 3 (unshown_bytes s)
unshown-escape x h l s e = rw e

-- a byte that is neither: too few bytes follow it, or what follows is no escape
pub unshown-short : (x : ℕ) (s : Text) → printable x ≡ false → length s < 2 → unshown_bytes (x ∷ s) ≡ fault 0
unfolding as_it_is
unshown-short x [] p h = rw p
unshown-short x (a ∷ []) p h = rw p
unshown-short x (a ∷ (b ∷ s)) p h = absurd (omega arith)

pub unshown-bad : (x h l : ℕ) (s : Text) → printable x ≡ false → escape x h l ≡ false → unshown_bytes (x ∷ h ∷ l ∷ s) ≡ fault 0
unfolding as_it_is
unshown-bad x h l s p e = rw (e, p)

-- a byte in print, before any others
code-back : (b : ℕ) (s : Text) → b < 256 → unshown_bytes (37 ∷ capital_digit (b / 16) ∷ capital_digit (b % 16) ∷ s) ≡ before b 3 (unshown_bytes s)
unfolding escape escaped
code-back b s h =
    let hi : b / 16 < 16 = omega arith in
    let lo : b % 16 < 16 = omega arith in
    let v : 16 * (b / 16) + b % 16 ≡ b = omega arith in
    rw (digit-back (b / 16) hi, digit-back (b % 16) lo, lt-ltb (b / 16) 16 hi, lt-ltb (b % 16) 16 lo, v)

byte-back : (b : ℕ) (s : Text) → b < 256 → (t : Text) → unshown_bytes s ≡ stands t → unshown_bytes (shown_byte b ++ s) ≡ stands (b ∷ t)
unfolding shown_byte
byte-back b s h t e = go (printable b) refl
  where
    go : (p : Bool) → printable b ≡ p → unshown_bytes (cond p (b ∷ []) (37 ∷ capital_digit (b / 16) ∷ capital_digit (b % 16) ∷ []) ++ s) ≡ stands (b ∷ t)
    go true p = unshown-plain b s p ∙ ap (before b 1) e
    go false p = code-back b s h ∙ ap (before b 3) e

bytes_back : (t : Text) → every is_byte t ≡ true → unshown_bytes (each t shown_byte) ≡ stands t
bytes_back [] h = refl
bytes_back (b ∷ t) h = byte-back b (each t shown_byte) (ltb-true b 256 (and_left (is_byte b) (every is_byte t) h)) t (bytes_back t (and_right (is_byte b) (every is_byte t) h))

-- what is shown stands for itself again
pub shown-back : ShownBack
unfolding shown
shown-back t h = ap (after 1) (bytes_back t h)
