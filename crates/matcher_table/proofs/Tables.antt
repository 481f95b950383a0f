-- Ten numbers of a table tell a matcher; what is stored there, and what stays. Assumes nothing.
use Prim.Native.Nat.{ℕ, ◌+◌, ◌*◌, ◌≤◌, ◌<◌}
use native.Mathlib.Omega.{arith}
use native.Mathlib.Nat.{add-zero}
use mathlib.Core.Path.{◌≡◌, refl, ◌∙◌}
use mathlib.Core.Bool.{Bool, true, false}
use mathlib.Core.List.{List, [], ◌∷◌, ◌++◌}
use borrow.Author.Tests.{ltb-true, ltb-false}
use lib.Dec.{ltb}
use lib.ListN.{length, get_or, set, length-set}
use Rattle.meaning.specs.Bytes.{Text}
use Rattle.buffer.specs.Splice.{splice}
use Rattle.buffer.proofs.Splices.{length-splice, splice-splice, splice-byte, splice-there, splice-before, splice-after}
use Rattle.parse.specs.declared.types.Side.{Side}
use Rattle.matcher.specs.declared.types.Needle.{Needle}
use Rattle.matcher.specs.declared.types.Target.{Target}
use Rattle.matcher.specs.declared.types.Matcher.{Matcher}
use Rattle.sides.specs.declared.SideNumbers.{SideNumbers}
use Rattle.sides.specs.Sides.{side_of}
use Rattle.sides.specs.Numbers.{side_from, side_kind}
use Rattle.sides.proofs.Told.{side-told}
use Rattle.matcher_table.specs.Numbers.{matcher_numbers, needle_from, target_from, matcher_at, PutMatcher, needle_kind, needle_star, target_kind, target_number, half_numbers, source_numbers, destination_numbers}
use Rattle.matcher_table.proofs.Told.{needle-told, target_told}

-- ---- numbers stored one after the other

-- one more number after those that are stored
one_more : (t : Text) (i : ℕ) (s : Text) (v j : ℕ) → i + length s < length t → j ≡ i + length s → set (splice t i s) j v ≡ splice t i (s ++ (v ∷ []))
one_more t i s v j h e =
    let room : i + length s < length (splice t i s) = rw (length-splice t i s (omega arith)) h in
    rw e (splice-byte (splice t i s) (i + length s) v room ∙ splice-splice t i s (v ∷ []) (omega arith))

module _ (t : Text) (i a b c d e : ℕ) (h : i + 5 ≤ length t) where
  one : set t i a ≡ splice t i (a ∷ [])
  one = splice-byte t i a (omega arith)

  two : set (set t i a) (i + 1) b ≡ splice t i (a ∷ b ∷ [])
  two = rw one (one_more t i (a ∷ []) b (i + 1) (omega arith) refl)

  three : set (set (set t i a) (i + 1) b) (i + 2) c ≡ splice t i (a ∷ b ∷ c ∷ [])
  three = rw two (one_more t i (a ∷ b ∷ []) c (i + 2) (omega arith) refl)

  four : set (set (set (set t i a) (i + 1) b) (i + 2) c) (i + 3) d ≡ splice t i (a ∷ b ∷ c ∷ d ∷ [])
  four = rw three (one_more t i (a ∷ b ∷ c ∷ []) d (i + 3) (omega arith) refl)

  pub five-stored : set (set (set (set (set t i a) (i + 1) b) (i + 2) c) (i + 3) d) (i + 4) e ≡ splice t i (a ∷ b ∷ c ∷ d ∷ e ∷ [])
  five-stored = rw four (one_more t i (a ∷ b ∷ c ∷ d ∷ []) e (i + 4) (omega arith) refl)

  -- there is room for each
  pub second-room : i + 1 < length (set t i a)
  second-room = simp length-set (omega arith)

  pub third-room : i + 2 < length (set (set t i a) (i + 1) b)
  third-room = simp length-set (omega arith)

  pub fourth-room : i + 3 < length (set (set (set t i a) (i + 1) b) (i + 2) c)
  fourth-room = simp length-set (omega arith)

  pub fifth-room : i + 4 < length (set (set (set (set t i a) (i + 1) b) (i + 2) c) (i + 3) d)
  fifth-room = simp length-set (omega arith)

source-five : (s : Side) (n : Needle) → length (source_numbers s n) ≡ 5
unfolding source_numbers
source-five s n = refl

-- ---- a matcher stored
module _ (t : Text) (k : ℕ) (m : Matcher) where
  -- its numbers
  abbrev source : Text
  source = source_numbers m.src m.lhs

  abbrev destination : Text
  destination = destination_numbers m.dst m.rhs

  abbrev ten : Text
  ten = source ++ destination

  ten-long : length ten ≡ matcher_numbers
  unfolding source_numbers destination_numbers
  ten-long = refl

  module _ (h : matcher_numbers * k + matcher_numbers ≤ length t) where
    after_is : (u v : Text) → u ≡ splice t (matcher_numbers * k) source → v ≡ splice u (matcher_numbers * k + 5) destination → v ≡ splice t (matcher_numbers * k) ten
    after_is u v e f =
        let five = source-five m.src m.lhs in
        f ∙ rw (e, ← five) (splice-splice t (matcher_numbers * k) source destination (omega arith))

    there-at : (i : ℕ) → i < matcher_numbers → get_or (splice t (matcher_numbers * k) ten) (matcher_numbers * k + i) 0 ≡ get_or ten i 0
    there-at i l = let z = ten-long in splice-there t (matcher_numbers * k) ten i (omega arith) (omega arith)

    first-at : get_or (splice t (matcher_numbers * k) ten) (matcher_numbers * k) 0 ≡ side_kind m.src
    unfolding source_numbers
    first-at = rw (add-zero (matcher_numbers * k)) at (there-at 0 (omega arith))

    stored_there : matcher_at (splice t (matcher_numbers * k) ten) k ≡ m
    unfolding matcher_at source_numbers destination_numbers
    stored_there =
        rw (
          first-at,
          there-at 1 (omega arith),
          there-at 2 (omega arith),
          there-at 3 (omega arith),
          there-at 4 (omega arith),
          there-at 5 (omega arith),
          there-at 6 (omega arith),
          there-at 7 (omega arith),
          there-at 8 (omega arith),
          there-at 9 (omega arith),
          side-told m.src,
          needle-told m.lhs,
          side-told m.dst,
          target_told m.rhs,
        )

    stays_at : (j i : ℕ) → (j ≡ k → ⊥) → i < matcher_numbers → get_or (splice t (matcher_numbers * k) ten) (matcher_numbers * j + i) 0 ≡ get_or t (matcher_numbers * j + i) 0
    stays_at j i n l = go (ltb j k) refl
      where
        go : (b : Bool) → ltb j k ≡ b → get_or (splice t (matcher_numbers * k) ten) (matcher_numbers * j + i) 0 ≡ get_or t (matcher_numbers * j + i) 0
        go true e = let z = ten-long in let lt : j < k = ltb-true j k e in splice-before t (matcher_numbers * k) ten (matcher_numbers * j + i) (omega arith) (omega arith)
        go false e = let z = ten-long in let le : k ≤ j = ltb-false j k e in let lt : k < j = omega arith in splice-after t (matcher_numbers * k) ten (matcher_numbers * j + i) (omega arith) (omega arith)

    stored-kept : (j : ℕ) → (j ≡ k → ⊥) → matcher_at (splice t (matcher_numbers * k) ten) j ≡ matcher_at t j
    unfolding matcher_at
    stored-kept j n =
        rw (
          rw (add-zero (matcher_numbers * j)) at (stays_at j 0 n (omega arith)),
          stays_at j 1 n (omega arith),
          stays_at j 2 n (omega arith),
          stays_at j 3 n (omega arith),
          stays_at j 4 n (omega arith),
          stays_at j 5 n (omega arith),
          stays_at j 6 n (omega arith),
          stays_at j 7 n (omega arith),
          stays_at j 8 n (omega arith),
          stays_at j 9 n (omega arith),
        )

    stored-ten : PutMatcher t k m (splice t (matcher_numbers * k) ten)
    stored-ten = let z = ten-long in record { written = refl; size = length-splice t (matcher_numbers * k) ten (omega arith); kept = stored-kept; there = stored_there }

  -- both fives tell the matcher, and the others stay
  pub stored : matcher_numbers * k + matcher_numbers ≤ length t → (u v : Text) (a b c d : ℕ) → a ≡ needle_kind m.lhs → b ≡ needle_star m.lhs → c ≡ target_kind m.rhs → d ≡ target_number m.rhs
      → u ≡ splice t (matcher_numbers * k) (half_numbers m.src a b) → v ≡ splice u (matcher_numbers * k + 5) (half_numbers m.dst c d) → PutMatcher t k m v
  unfolding source_numbers destination_numbers
  stored h u v a b c d ea eb ec ed e f = rw (after_is h u v (rw (ea, eb) at e) (rw (ec, ed) at f)) (stored-ten h)

-- the ten numbers of number k tell the matcher
pub numbers-tell : (t : List ℕ) (k : ℕ) (s d : Side) (n : Needle) (r : Target) (p q : SideNumbers) (x5 x10 : ℕ)
    → s ≡ side_of p
    → side_of p ≡ side_from (get_or t (matcher_numbers * k) 0) (get_or t (matcher_numbers * k + 1) 0) (get_or t (matcher_numbers * k + 2) 0)
    → n ≡ needle_from (get_or t (matcher_numbers * k + 3) 0) x5
    → d ≡ side_of q
    → side_of q ≡ side_from (get_or t (matcher_numbers * k + 5) 0) (get_or t (matcher_numbers * k + 5 + 1) 0) (get_or t (matcher_numbers * k + 5 + 2) 0)
    → r ≡ target_from (get_or t (matcher_numbers * k + 8) 0) x10
    → x5 ≡ get_or t (matcher_numbers * k + 4) 0
    → x10 ≡ get_or t (matcher_numbers * k + 9) 0
    → record { src = s; lhs = n; dst = d; rhs = r } ≡ matcher_at t k
unfolding matcher_at
numbers-tell t k s d n r p q x5 x10 a ep b c eq e e5 e10 =
    let six : matcher_numbers * k + 5 + 1 ≡ matcher_numbers * k + 6 = omega arith in
    let seven : matcher_numbers * k + 5 + 2 ≡ matcher_numbers * k + 7 = omega arith in
    rw (a, ep, b, c, eq, six, seven, e, e5, e10)
