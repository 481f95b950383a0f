-- One step of each look through a text: what is left of the text decides as the whole does. Assumes nothing.
use mathlib.Core.Path.{◌≡◌, refl, sym, ◌∙◌}
use mathlib.Core.Bool.{Bool, true, false, not, cond}
use mathlib.Core.List.{[], ◌∷◌}
use Prim.Native.Nat.{ℕ, suc, ◌+◌, ◌≤◌, ◌<◌}
use native.Mathlib.Nat.{add-zero}
use native.Mathlib.Omega.{arith}
use borrow.Author.Tests.{eq-eqb, ne_eqb, eqb-false, not-true, not-false, lt-ltb}
use lib.Dec.{eqb, ltb, leb-suc-suc}
use lib.ListN.{length, get_or, drop}
use Rattle.std.proofs.Common.{nat_eq, position, Option, Some, None, MatchOption, ap, one-add, ltb-true, ltb-false, ◌||◌, ◌&&◌, eqb-true}
use Rattle.std.specs.List.{position_or_len, list_any, list_all}
use Rattle.std.proofs.lemmas.List.Recursion.{is_position_or_len}
use Rattle.meaning.specs.Bytes.{Text, ◌and◌, ◌or◌, every, has_byte, count}
use Rattle.text.specs.Place.{first_at}
use Rattle.text.proofs.Rests.{rest-cons, rest_end}

-- the pattern's byte stands first in the definitions, the text's first in the code
pub byte-is : (x b : ℕ) → x ≡ b → eqb b x ≡ true
byte-is x b e = eq-eqb b x (sym e)

pub byte-other : (x b : ℕ) → (x ≡ b → ⊥) → eqb b x ≡ false
byte-other x b n = ne_eqb b x (λ e. n (sym e))

module _ (test : ℕ → Bool) (s : Text) (i : ℕ) (inv : every test (drop i s) ≡ every test s) where
  pub every-fails : (r : Bool) → i < length s → r ≡ test (get_or s i 0) → not r ≡ true → false ≡ every test s
  every-fails r h e t = rw (rest-cons s i h, sym e ∙ not-true r t) at inv

  pub every_more : (r : Bool) → i < length s → r ≡ test (get_or s i 0) → not r ≡ false → every test (drop (i + 1) s) ≡ every test s
  every_more r h e f = rw (rest-cons s i h, sym e ∙ not-false r f) at inv

  pub every-done : length s ≤ i → true ≡ every test s
  every-done h = rw (rest_end s i h) at inv

-- the first place as std says it
first-at : (b : ℕ) (s : Text) → first_at b s ≡ position_or_len (nat_eq b) s
first-at b s = is_position_or_len (first_at b) (nat_eq b) refl (λ x l. ap (cond (eqb b x) 0) (sym (one-add (first_at b l)))) s

-- no place is past the end
first-within : (b : ℕ) (s : Text) → first_at b s ≤ length s
first-within b [] = omega arith
first-within b (x ∷ s) = go (eqb b x) (first-within b s)
  where
    go : (here : Bool) → first_at b s ≤ length s → cond here 0 (suc (first_at b s)) ≤ suc (length s)
    go true h = omega arith
    go false h = omega arith

-- where std finds a byte
pub found : (b : ℕ) (s : Text) (r : Option ℕ) → r ≡ position (nat_eq b) s → MatchOption r (first_at b s ≡ length s) (λ i. (i ≡ first_at b s) × (i < length s))
found b s r e = rw (e, ← first-at b s) (go (ltb (first_at b s) (length s)) refl)
  where
    go : (t : Bool) → ltb (first_at b s) (length s) ≡ t → MatchOption (cond t (Some (first_at b s)) None) (first_at b s ≡ length s) (λ i. (i ≡ first_at b s) × (i < length s))
    go true q = (refl, ltb-true _ _ q)
    go false q = omega (arith, ltb-false _ _ q, first-within b s)

-- a byte stands in the text where its first place is before the end
byte-first : (b : ℕ) (s : Text) → ltb (first_at b s) (length s) ≡ has_byte b s
byte-first b [] = refl
byte-first b (x ∷ s) = go (eqb b x) (byte-first b s)
  where
    go : (here : Bool) → ltb (first_at b s) (length s) ≡ has_byte b s → ltb (cond here 0 (suc (first_at b s))) (suc (length s)) ≡ (here or has_byte b s)
    go true r = lt-ltb 0 (suc (length s)) (omega arith)
    go false r = leb-suc-suc (suc (first_at b s)) (length s) ∙ r

pub byte-found : (s : Text) (b n : ℕ) → n ≡ first_at b s → ltb n (length s) ≡ has_byte b s
byte-found s b n e = rw e (byte-first b s)

-- a test of two numbers asks the same either way round
pub eqb_swap : (m n : ℕ) → eqb m n ≡ eqb n m
eqb_swap m n = go (eqb n m) refl
  where
    go : (b : Bool) → eqb n m ≡ b → eqb m n ≡ b
    go true e = eq-eqb m n (sym (eqb-true n m e))
    go false e = ne_eqb m n (λ q. eqb-false n m e (sym q))

either : (a b c : Bool) → a ≡ b → (a || c) ≡ (b or c)
either true b c e = rw (← e)
either false b c e = rw (← e)

-- one of the bytes as std says it
pub byte-in : (b : ℕ) (s : Text) (r : Bool) → r ≡ list_any (λ y. nat_eq y b) s → r ≡ has_byte b s
byte-in b s r e = e ∙ go s
  where
    go : (s : Text) → list_any (λ y. nat_eq y b) s ≡ has_byte b s
    go [] = refl
    go (x ∷ s) = rw (go s) (either (eqb x b) (eqb b x) (has_byte b s) (eqb_swap x b))

module _ (s : Text) (b n i : ℕ) (inv : n + count b (drop i s) ≡ count b s) where
  pub count-hit : i < length s → get_or s i 0 ≡ b → n + 1 + count b (drop (i + 1) s) ≡ count b s
  count-hit h e = let g : n + suc (count b (drop (i + 1) s)) ≡ count b s = rw (rest-cons s i h, byte-is _ _ e) at inv in omega arith

  pub count-miss : i < length s → (get_or s i 0 ≡ b → ⊥) → n + count b (drop (i + 1) s) ≡ count b s
  count-miss h e = rw (rest-cons s i h, byte-other _ _ e) at inv

  pub count-done : length s ≤ i → n ≡ count b s
  count-done h = sym (add-zero n) ∙ rw (rest_end s i h) at inv

-- a test of every byte as std says it
pub every-all : (t u : ℕ → Bool) → ((x : ℕ) → u x ≡ t x) → (s : Text) (r : Bool) → r ≡ list_all u s → r ≡ every t s
every-all t u h s r e = e ∙ go s
  where
    both : (a b c : Bool) → a ≡ b → (a && c) ≡ (b and c)
    both true b c q = rw (← q)
    both false b c q = rw (← q)

    go : (s : Text) → list_all u s ≡ every t s
    go [] = refl
    go (x ∷ s) = rw (go s) (both (u x) (t x) (every t s) (h x))
