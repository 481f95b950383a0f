-- Several bytes as one number decide as the bytes do. Assumes nothing.
use mathlib.Core.Path.{◌≡◌, refl}
use mathlib.Core.List.{[], ◌∷◌}
use Prim.Native.Nat.{ℕ, zero, suc, ◌+◌, ◌*◌, ◌≤◌, ◌<◌}
use native.Mathlib.Omega.{arith}
use mir.Syntax.{w8}
use mir.Val.{Fits}
use lib.ListN.{length, get_or, drop, length-drop}
use lib.Seq.{drop-drop, get_or-drop}
use Rattle.meaning.specs.Bytes.{Text}
use Rattle.compare.specs.Word.{number}
use Rattle.text.proofs.Rests.{rest-cons}

-- each member is a byte
abbrev pub Bytes : Text → Type 0
Bytes s = (i : ℕ) → Fits w8 (get_or s i 0)

pub bytes-tail : (x : ℕ) (s : Text) → Bytes (x ∷ s) → Bytes s
bytes-tail x s h i = h (suc i)

pub bytes_drop : (n : ℕ) (s : Text) → Bytes s → Bytes (drop n s)
bytes_drop n s h i = rw (get_or-drop n s i 0) (h (n + i))

-- the first byte that differs decides which number is smaller
pub number-less : (k p q : ℕ) (a b : Text) → k ≤ length a → k ≤ length b → Bytes a → Bytes b → p < q → number p k a < number q k b
number-less zero p q a b m n f g h = h
number-less (suc k) p q [] b m n f g h = absurd (omega arith)
number-less (suc k) p q (x ∷ a) [] m n f g h = absurd (omega arith)
number-less (suc k) p q (x ∷ a) (y ∷ b) m n f g h =
    number-less k (p * 256 + x) (q * 256 + y) a b (omega arith) (omega arith) (bytes-tail x a f) (bytes-tail y b g) (omega (arith, f 0, g 0))

-- four bytes
pub half_is : (s : Text) (i a b c d : ℕ) → i + 4 ≤ length s → a ≡ get_or s i 0 → b ≡ get_or s (i + 1) 0 → c ≡ get_or s (i + 2) 0 → d ≡ get_or s (i + 3) 0
    → ((a * 256 + b) * 256 + c) * 256 + d ≡ number 0 4 (drop i s)
half_is s i a b c d h ea eb ec ed =
    let two : i + 1 + 1 ≡ i + 2 = omega arith in
    let three : i + 2 + 1 ≡ i + 3 = omega arith in
    rw (rest-cons s i (omega arith), rest-cons s (i + 1) (omega arith), two, rest-cons s (i + 2) (omega arith), three, rest-cons s (i + 3) (omega arith), ← ea, ← eb, ← ec, ← ed) (omega arith)

four : (p : ℕ) (s : Text) → 4 ≤ length s → number p 4 s ≡ p * 4294967296 + number 0 4 s
four p [] h = absurd (omega arith)
four p (x ∷ []) h = absurd (omega arith)
four p (x ∷ y ∷ []) h = absurd (omega arith)
four p (x ∷ y ∷ z ∷ []) h = absurd (omega arith)
four p (x ∷ y ∷ z ∷ v ∷ s) h = omega arith

eight : (s : Text) → 4 ≤ length s → number 0 8 s ≡ number (number 0 4 s) 4 (drop 4 s)
eight [] h = absurd (omega arith)
eight (x ∷ []) h = absurd (omega arith)
eight (x ∷ y ∷ []) h = absurd (omega arith)
eight (x ∷ y ∷ z ∷ []) h = absurd (omega arith)
eight (x ∷ y ∷ z ∷ v ∷ s) h = refl

-- eight bytes are four and four
pub word-is : (s : Text) (i a b : ℕ) → i + 8 ≤ length s → a ≡ number 0 4 (drop i s) → b ≡ number 0 4 (drop (i + 4) s) → a * 4294967296 + b ≡ number 0 8 (drop i s)
word-is s i a b h d e =
    rw (eight (drop i s) (rw length-drop (omega arith)), drop-drop 4 i s, four (number 0 4 (drop i s)) (drop (i + 4) s) (rw length-drop (omega arith)), d, e)
