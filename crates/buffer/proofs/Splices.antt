-- Laws of `splice`: what is written after what was written. Assumes nothing.
use mathlib.Core.Path.{◌≡◌, sym, ap, ◌∙◌}
use mathlib.Core.List.{[], ◌∷◌, ◌++◌, append_assoc}
use Prim.Native.Nat.{ℕ, ◌+◌, ◌-◌, ◌≤◌, ◌<◌}
use native.Mathlib.Omega.{arith}
use native.Mathlib.Nat.{add_assoc, add-zero, zero-add}
use native.Mathlib.Numerals.{add-one}
use lib.ListN.{length, set, take, drop, get_or, length-append, length-drop, take-append-drop, get_or-append}
use lib.Seq.{length-take-le, take_at, drop-append-add, drop-drop, set_split, paste, take-length, take-add, get_or-append-add, get_or-take, get_or-drop}
use Rattle.meaning.specs.Bytes.{Text}
use Rattle.buffer.specs.Splice.{splice}

-- nothing written changes nothing
pub splice-none : (d : Text) (at : ℕ) → splice d at [] ≡ d
unfolding splice
splice-none d at = rw (add-zero at) (take-append-drop at d)

-- written at the start
pub splice-start : (d s : Text) → splice d 0 s ≡ s ++ drop (length s) d
unfolding splice
splice-start d s = rw (zero-add (length s))

-- a buffer keeps its length
pub length-splice : (d : Text) (at : ℕ) (s : Text) → at + length s ≤ length d → length (splice d at s) ≡ length d
unfolding splice
length-splice d at s h =
    let k : at ≤ length d = omega arith in
    simp (length-append, length-take-le at d k, length-drop) (omega arith)

-- s, and then t right after it, is s and t in one
pub splice-splice : (d : Text) (at : ℕ) (s t : Text) → at + length s ≤ length d → splice (splice d at s) (at + length s) t ≡ splice d at (s ++ t)
unfolding splice
splice-splice d at s t h =
    let k : at ≤ length d = omega arith in
    let p = take at d ++ s in
    let r = drop (at + length s) d in
    let lp : length p ≡ at + length s = simp (length-append, length-take-le at d k) in
    rw (← append_assoc (take at d) s r, take_at p r (at + length s) lp)
    (ap (λ (q : Text). p ++ (t ++ q)) (ap (λ (m : ℕ). drop (m + length t) (p ++ r)) (sym lp) ∙ drop-append-add p r (length t) ∙ drop-drop (length t) (at + length s) d)
    ∙ simp (length-append, append_assoc, add_assoc))

-- the same where a call answered the place after s
pub splice-next : (d : Text) (at : ℕ) (s t : Text) (k : ℕ) → at + length s ≤ length d → k ≡ at + length s → splice (splice d at s) k t ≡ splice d at (s ++ t)
splice-next d at s t k h e = rw e (splice-splice d at s t h)

-- one byte written
pub splice-byte : (d : Text) (at b : ℕ) → at < length d → set d at b ≡ splice d at (b ∷ [])
unfolding splice
splice-byte d at b h = set_split d at b h ∙ ap (λ (n : ℕ). take at d ++ (b ∷ drop n d)) (sym (add-one at))

-- a copy to its end
pub splice-paste : (d : Text) (at : ℕ) (s : Text) (i : ℕ) → i ≡ length s → paste d at s i ≡ splice d at s
unfolding splice
splice-paste d at s i e = rw (e, take-length s) (append_assoc (take at d) s (drop (at + length s) d))

-- what was written is written over from the same place on by a text that is no shorter
pub splice-over : (d : Text) (p : ℕ) (u t : Text) → p + length t ≤ length d → length u ≤ length t → splice (splice d p u) p t ≡ splice d p t
unfolding splice
splice-over d p u t h m =
    let k : p ≤ length d = omega arith in
    let a = take p d in
    let r = drop (p + length u) d in
    let n = length t - length u in
    let la : length a ≡ p = length-take-le p d k in
    let e : p + length t ≡ length (a ++ u) + n = rw (length-append a u, la) (omega arith) in
    let f : p + length u + n ≡ p + length t = omega arith in
    let past : drop (p + length t) (a ++ (u ++ r)) ≡ drop (p + length t) d =
    rw (← append_assoc a u r, e) (drop-append-add (a ++ u) r n) ∙ drop-drop n (p + length u) d ∙ ap (λ (q : ℕ). drop q d) f in
    ap (λ (q : Text). q ++ (t ++ drop (p + length t) (a ++ (u ++ r)))) (take_at a (u ++ r) p la) ∙ ap (λ (q : Text). a ++ (t ++ q)) past

-- k bytes more of s are written after its first i
pub splice-more : (d s : Text) (at i k : ℕ) → at + length s ≤ length d → i + k ≤ length s → splice (splice d at (take i s)) (at + i) (take k (drop i s)) ≡ splice d at (take (i + k) s)
splice-more d s at i k h m =
    let l : length (take i s) ≡ i = length-take-le i s (omega arith) in
    rw (take-add i k s) (splice-next d at (take i s) (take k (drop i s)) (at + i) (rw l (omega arith)) (rw l))

-- of s the first i bytes are written, and then all from byte j on, which may be one of these
pub splice-rest : (d s : Text) (at i j : ℕ) → at + length s ≤ length d → j ≤ i → i ≤ length s → splice (splice d at (take i s)) (at + j) (drop j s) ≡ splice d at s
splice-rest d s at i j h m n =
    let n' = i - j in
    let e : j + n' ≡ i = omega arith in
    let l : length (take j s) ≡ j = length-take-le j s (omega arith) in
    let b : at + length (take j s) ≤ length d = rw l (omega arith) in
    let w = splice d at (take j s) in
    let lw : length w ≡ length d = length-splice d at (take j s) b in
    let ld : length (drop j s) ≡ length s - j = length-drop j s in
    let lt : length (take n' (drop j s)) ≡ n' = length-take-le n' (drop j s) (rw ld (omega arith)) in
    ap (λ (q : Text). splice q (at + j) (drop j s)) (sym (rw e at (splice-more d s at j n' h (omega arith))))
    ∙ splice-over w (at + j) (take n' (drop j s)) (drop j s) (rw (lw, ld) (omega arith)) (rw (lt, ld) (omega arith))
    ∙ splice-next d at (take j s) (drop j s) (at + j) b (rw l)
    ∙ ap (splice d at) (take-append-drop j s)

-- what stands where s was written
pub splice-there : (d : Text) (at : ℕ) (s : Text) (i : ℕ) → at + length s ≤ length d → i < length s → get_or (splice d at s) (at + i) 0 ≡ get_or s i 0
unfolding splice
splice-there d at s i h l =
    let z : length (take at d) ≡ at = length-take-le at d (omega arith) in
    ap (λ (n : ℕ). get_or (take at d ++ (s ++ drop (at + length s) d)) (n + i) 0) (sym z)
    ∙ get_or-append-add (take at d) (s ++ drop (at + length s) d) i 0
    ∙ get_or-append s (drop (at + length s) d) 0 i l

-- what stands before it
pub splice-before : (d : Text) (at : ℕ) (s : Text) (i : ℕ) → at + length s ≤ length d → i < at → get_or (splice d at s) i 0 ≡ get_or d i 0
unfolding splice
splice-before d at s i h l =
    let z : length (take at d) ≡ at = length-take-le at d (omega arith) in
    get_or-append (take at d) (s ++ drop (at + length s) d) 0 i (omega arith) ∙ get_or-take at d i 0 l

-- what stands after it
pub splice-after : (d : Text) (at : ℕ) (s : Text) (i : ℕ) → at + length s ≤ length d → at + length s ≤ i → get_or (splice d at s) i 0 ≡ get_or d i 0
unfolding splice
splice-after d at s i h l =
    let z : length (take at d ++ s) ≡ at + length s = simp (length-append, length-take-le at d (omega arith)) in
    let e : length (take at d ++ s) + (i - (at + length s)) ≡ i = omega arith in
    rw (← append_assoc (take at d) s (drop (at + length s) d), ← e, get_or-append-add (take at d ++ s) (drop (at + length s) d) (i - (at + length s)) 0, get_or-drop)
    (ap (λ (n : ℕ). get_or d n 0) (omega arith))
