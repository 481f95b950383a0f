-- Starts and ends, what stands after and before them, captures, and the form of a text. Assumes nothing.
use mathlib.Core.Path.{◌≡◌, refl, sym, ap, ◌∙◌}
use mathlib.Core.Logic.{◌⊎◌, inl, inr}
use mathlib.Core.Bool.{Bool, true, false, cond, false≢true}
use mathlib.Core.List.{[], ◌∷◌, ◌++◌, append-nil}
use mathlib.Core.Option.{Option, none, some}
use Prim.Native.Nat.{ℕ, suc, ◌-◌, ◌≤◌}
use native.Mathlib.Omega.{arith}
use borrow.Author.Tests.{eq-eqb, eqb-true}
use lib.Dec.{eqb}
use lib.ListN.{length, take, drop, length-append}
use lib.Seq.{take-append_seam, drop-append_seam}
use Rattle.meaning.specs.Bytes.{Text, ◌and◌, same, begins, ends, after, before}
use Rattle.meaning.specs.Spec.{starred}
use Rattle.meaning.specs.Prefix.{before_star}
use Rattle.meaning.specs.Match.{after_star, literal, pattern, form_of, before_in, capture}
use Rattle.promises.specs.Facts.{CaptureExactly}
use Rattle.promises.proofs.Laws.{and_left, and_right, or_cases, or_right, same-is, same_refl, no_bytes}

-- a text that begins with p is p and what follows
pub begins-is : (p s : Text) → begins p s ≡ true → s ≡ p ++ drop (length p) s
begins-is [] s e = refl
begins-is (a ∷ p) [] e = absurd (false≢true e)
begins-is (a ∷ p) (x ∷ s) e =
    let u : a ≡ x = eqb-true a x (and_left (eqb a x) (begins p s) e) in
    let v = begins-is p s (and_right (eqb a x) (begins p s) e) in
    rw u (ap (λ (k : Text). x ∷ k) v)

-- what has p before it begins with p
pub begins-append : (p r : Text) → begins p (p ++ r) ≡ true
begins-append [] r = refl
begins-append (a ∷ p) r = rw (eq-eqb a a refl) (begins-append p r)

-- what follows p is what p has after it
pub after_is : (p s r : Text) → after p s ≡ some r → s ≡ p ++ r
after_is p s r e = go (begins p s) refl e
  where
    go : (b : Bool) → begins p s ≡ b → cond b (some (drop (length p) s)) none ≡ some r → s ≡ p ++ r
    go true q h = let u : drop (length p) s ≡ r = cc in rw u at (begins-is p s q)
    go false q h = absurd (let z : ◌≡◌ {A = ℕ} 0 1 = cc in omega arith)

-- and the other way
pub after-append : (p r : Text) → after p (p ++ r) ≡ some r
after-append p r = rw (begins-append p r, drop-append_seam p r)

-- a text that ends with p is what stands before, and p
pub ends_is : (p s : Text) → ends p s ≡ true → s ≡ take (length s - length p) s ++ p
ends_is p [] e = let u : p ≡ [] = same-is p [] e in rw u
ends_is p (x ∷ s) e = go (ends_is p s) (or_cases (same p (x ∷ s)) (ends p s) e)
  where
    longer : s ≡ take (length s - length p) s ++ p → length p ≤ length s
    longer h = omega (arith, ap length h, length-append (take (length s - length p) s) p)

    go : (ends p s ≡ true → s ≡ take (length s - length p) s ++ p) → (same p (x ∷ s) ≡ true) ⊎ (ends p s ≡ true) → x ∷ s ≡ take (suc (length s) - length p) (x ∷ s) ++ p
    go f (inl q) =
        let u : p ≡ x ∷ s = same-is p (x ∷ s) q in
        let n : suc (length s) - length p ≡ 0 = omega (arith, ap length u) in
        rw n (sym u)
    go f (inr q) =
        let h = f q in
        let n : suc (length s) - length p ≡ suc (length s - length p) = omega (arith, longer h) in
        rw n (ap (λ (k : Text). x ∷ k) h)

-- a text ends with itself
ends-self : (p : Text) → ends p p ≡ true
ends-self [] = refl
ends-self (x ∷ p) = rw (same_refl (x ∷ p))

-- what has p after it ends with p
pub ends-append : (p r : Text) → ends p (r ++ p) ≡ true
ends-append p [] = ends-self p
ends-append p (x ∷ r) = or_right (same p (x ∷ (r ++ p))) (ends p (r ++ p)) (ends-append p r)

-- what stands before p is what p has before it
pub before-is : (p s r : Text) → before p s ≡ some r → s ≡ r ++ p
before-is p s r e = go (ends p s) refl e
  where
    go : (b : Bool) → ends p s ≡ b → cond b (some (take (length s - length p) s)) none ≡ some r → s ≡ r ++ p
    go true q h = let u : take (length s - length p) s ≡ r = cc in rw u at (ends_is p s q)
    go false q h = absurd (let z : ◌≡◌ {A = ℕ} 0 1 = cc in omega arith)

-- and the other way
pub before-append : (p r : Text) → before p (r ++ p) ≡ some r
before-append p r =
    let n : length (r ++ p) - length p ≡ length r = omega (arith, length-append r p) in
    rw (ends-append p r, n, take-append_seam r p)

-- two starts, two ends

-- of two starts of one text, one begins the other
pub starts-compare : (a b s t : Text) → a ++ s ≡ b ++ t → (begins a b ≡ true) ⊎ (begins b a ≡ true)
starts-compare [] b s t e = inl refl
starts-compare (x ∷ a) [] s t e = inr refl
starts-compare (x ∷ a) (y ∷ b) s t e = go (starts-compare a b s t (cc))
  where
    p : x ≡ y
    p = cc

    go : (begins a b ≡ true) ⊎ (begins b a ≡ true) → ((eqb x y and begins a b) ≡ true) ⊎ ((eqb y x and begins b a) ≡ true)
    go (inl q) = inl (rw (eq-eqb x y p, q))
    go (inr q) = inr (rw (eq-eqb y x (sym p), q))

-- of two ends of one text, one closes the other
pub ends-compare : (s t a b : Text) → s ++ a ≡ t ++ b → (ends a b ≡ true) ⊎ (ends b a ≡ true)
ends-compare [] t a b e = inr (rw e (ends-append b t))
ends-compare (x ∷ s) [] a b e = inl (rw (← e) (ends-append a (x ∷ s)))
ends-compare (x ∷ s) (y ∷ t) a b e = ends-compare s t a b (cc)

-- a start is no longer than what it begins
pub begins-shorter : (a b : Text) → begins a b ≡ true → length a ≤ length b
begins-shorter a b e = omega (arith, ap length (begins-is a b e), length-append a (drop (length a) b))

-- an end is no longer than what it closes
pub ends-shorter : (a b : Text) → ends a b ≡ true → length a ≤ length b
ends-shorter a b e = omega (arith, ap length (ends_is a b e), length-append (take (length b - length a) b) a)

-- a start as long as what it begins is all of it
pub start-whole : (a b : Text) → begins b a ≡ true → length a ≤ length b → a ≡ b
start-whole a b e h =
    let u = begins-is b a e in
    let n = no_bytes (drop (length b) a) (omega (arith, ap length u, length-append b (drop (length b) a))) in
    u ∙ ap (λ (k : Text). b ++ k) n ∙ append-nil b

-- so is an end
pub end_whole : (a b : Text) → ends b a ≡ true → length a ≤ length b → a ≡ b
end_whole a b e h =
    let u = ends_is b a e in
    let n = no_bytes (take (length a - length b) a) (omega (arith, ap length u, length-append (take (length a - length b) a) b)) in
    u ∙ ap (λ (k : Text). k ++ b) n

-- captures

-- a name with a capture is start, capture and end
pub capture-is : (a b n c : Text) → capture a b n ≡ some c → n ≡ a ++ (c ++ b)
unfolding capture
capture-is a b n c e = go (after a n) refl e
  where
    go : (o : Option Text) → after a n ≡ o → before_in b o ≡ some c → n ≡ a ++ (c ++ b)
    go none q h = absurd (let z : ◌≡◌ {A = ℕ} 0 1 = cc in omega arith)
    go (some r) q h = after_is a n r q ∙ ap (λ (k : Text). a ++ k) (before-is b r c h)

-- and the other way
pub capture-fill : (a b c : Text) → capture a b (a ++ (c ++ b)) ≡ some c
unfolding capture
capture-fill a b c = rw (after-append a (c ++ b)) (before-append b c)

-- a name has a capture exactly when it is the start, the capture and the end
pub capture-exactly : CaptureExactly
capture-exactly a b name c = (capture-is a b name c, λ e. rw e (capture-fill a b c))

-- a text with no star is literal
pub form-plain : (t : Text) → starred t ≡ false → form_of t ≡ literal t
unfolding form_of
form-plain t e = rw e

-- a text with a star is a pattern
pub form-starred : (t : Text) → starred t ≡ true → form_of t ≡ pattern (before_star t) (after_star t)
unfolding form_of
form-starred t e = rw e
