-- A name is looked at, and one name after the other. Assumes nothing.
use mathlib.Core.Path.{◌≡◌, refl, sym, ap, ◌∙◌}
use mathlib.Core.Bool.{Bool, true, false, cond}
use mathlib.Core.List.{List, [], ◌∷◌}
use Prim.Native.Nat.{ℕ, zero, suc, ◌+◌, ◌-◌, ◌*◌, ◌≤◌, ◌<◌}
use native.Mathlib.Omega.{arith}
use native.Mathlib.Numerals.{add-one}
use borrow.Author.Tests.{ne_eqb, le-leb, lt-leb, leb-true, eqb-true, eqb-false}
use lib.Dec.{eqb, leb}
use lib.ListN.{length, take, drop, get_or}
use lib.Seq.{drop-drop}
use Rattle.meaning.specs.Bytes.{Text, ◌and◌}
use Rattle.compare.specs.Word.{number}
use Rattle.parse.specs.Places.{part_at}
use Rattle.parse.proofs.Parts.{part_length}
use Rattle.filter.specs.declared.Filter.{Filter}
use Rattle.filter.specs.Filters.{frame_adds, looks_right, passes, FilterWithin, name_at, first_from, next_passing}

-- ---- bytes that stand in a part of a text
number-taken : (j k n q : ℕ) (s : Text) → j + k ≤ n → number q k (drop j (take n s)) ≡ number q k (drop j s)
number-taken zero zero n q s h = refl
number-taken zero (suc k) zero q s h = absurd (omega arith)
number-taken zero (suc k) (suc n) q [] h = refl
number-taken zero (suc k) (suc n) q (x ∷ s) h = number-taken zero k n (q * 256 + x) s (omega arith)
number-taken (suc j) k zero q s h = absurd (omega arith)
number-taken (suc j) k (suc n) q [] h = refl
number-taken (suc j) k (suc n) q (x ∷ s) h = number-taken j k n q s (omega arith)

-- make one number there and in the text
pub number-part : (s : Text) (at n j k q : ℕ) → j + k ≤ n → number q k (drop j (part_at s at n)) ≡ number q k (drop (at + j) s)
number-part s at n j k q h = number-taken j k n q (drop at s) h ∙ ap (number q k) (drop-drop j at s)

-- ---- how many bytes a frame adds
module _ (d : ℕ) where
  pub adds-nothing : d ≡ 0 → true ≡ frame_adds d
  unfolding frame_adds
  adds-nothing e = rw e

  pub adds-refs : d ≡ 5 → true ≡ frame_adds d
  unfolding frame_adds
  adds-refs e = rw e

  pub adds-tags : d ≡ 10 → true ≡ frame_adds d
  unfolding frame_adds
  adds-tags e = rw e

  pub adds-heads : d ≡ 11 → true ≡ frame_adds d
  unfolding frame_adds
  adds-heads e = rw e

  pub adds-remotes : d ≡ 13 → true ≡ frame_adds d
  unfolding frame_adds
  adds-remotes e = rw e

  pub adds-head : d ≡ 18 → true ≡ frame_adds d
  unfolding frame_adds
  adds-head e = rw e

  pub adds_none : (d ≡ 0 → ⊥) → (d ≡ 5 → ⊥) → (d ≡ 10 → ⊥) → (d ≡ 11 → ⊥) → (d ≡ 13 → ⊥) → (d ≡ 18 → ⊥) → false ≡ frame_adds d
  unfolding frame_adds
  adds_none a b c e f g = rw (ne_eqb d 0 a, ne_eqb d 5 b, ne_eqb d 10 c, ne_eqb d 11 e, ne_eqb d 13 f, ne_eqb d 18 g)

-- ---- one name
module _ (f : Filter) (items : Text) (start n : ℕ) (w : start + n ≤ length items) where
  size : length (part_at items start n) ≡ n
  size = part_length items start n w

  pub too_short : n < f.least → false ≡ passes f (part_at items start n)
  unfolding passes
  too_short h = rw (size, lt-leb f.least n h)

  pub too_long : f.least ≤ n → f.most < n → false ≡ passes f (part_at items start n)
  unfolding passes
  too_long l h = rw (size, le-leb f.least n l, lt-leb n f.most h)

  module _ (l : f.least ≤ n) (h : n ≤ f.most) where
    looked : passes f (part_at items start n) ≡ looks_right f (part_at items start n)
    unfolding passes
    looked = rw (size, le-leb f.least n l, le-leb n f.most h)

    -- the eight bytes stand in the name
    pub word_room : FilterWithin f → f.worded ≡ true → start + f.from + 8 ≤ length items
    word_room i e = omega (arith, i e)

    -- by eight bytes
    pub word-decides : FilterWithin f → f.worded ≡ true → (x : ℕ) → x ≡ number 0 8 (drop (start + f.from) items) → eqb x f.word ≡ passes f (part_at items start n)
    unfolding looks_right
    word-decides i e x q =
        let z : number 0 8 (drop f.from (part_at items start n)) ≡ x = number-part items start n f.from 8 0 (omega (arith, i e)) ∙ sym q in
        sym (looked ∙ rw (e, z))

    -- by the size of a candidate
    pub frame-decides : f.worded ≡ false → f.framed ≡ true → (r : Bool) → r ≡ frame_adds (n - f.least) → r ≡ passes f (part_at items start n)
    unfolding looks_right
    frame-decides e d r q = q ∙ sym (looked ∙ rw (e, d, size))

    -- by its size alone
    pub size-decides : f.worded ≡ false → f.framed ≡ false → true ≡ passes f (part_at items start n)
    unfolding looks_right
    size-decides e d = sym (looked ∙ rw (e, d))

-- a filter whose most is below its least lets no name pass
pub none_passes : (f : Filter) → f.most < f.least → (name : Text) → passes f name ≡ false
unfolding passes
none_passes f h name = go (leb f.least (length name)) refl
  where
    go : (b : Bool) → leb f.least (length name) ≡ b → (b and leb (length name) f.most and looks_right f name) ≡ false
    go true e = let l = leb-true f.least (length name) e in rw (lt-leb (length name) f.most (omega arith))
    go false e = refl

-- ---- one name after the other

-- the first number that passes is at or before the number after all of them, and none before it passes
pub record First (test : ℕ → Bool) (from n r : ℕ) : Type 0 where
  pub after : from ≤ r
  pub within : r ≤ n
  pub none : (k : ℕ) → from ≤ k → k < r → test k ≡ false

first-is : (test : ℕ → Bool) (i k : ℕ) → First test i (i + k) (first_from test i k)
first-is test i zero = record { after = omega arith; within = omega arith; none = λ k a b. absurd (omega arith) }
first-is test i (suc k) = go (first-is test (suc i) k) (test i) refl
  where
    below : First test (suc i) (suc i + k) (first_from test (suc i) k) → test i ≡ false → (j : ℕ) → i ≤ j → j < first_from test (suc i) k → (t : Bool) → eqb i j ≡ t → test j ≡ false
    below rest e j a b true q = rw (eqb-true i j q) at e
    below rest e j a b false q = let d : i ≡ j → ⊥ = eqb-false i j q in rest.none j (omega (arith, d)) b

    go : First test (suc i) (suc i + k) (first_from test (suc i) k) → (b : Bool) → test i ≡ b → First test i (i + suc k) (cond b i (first_from test (suc i) k))
    go rest true e = record { after = omega arith; within = omega arith; none = λ k a b. absurd (omega arith) }
    go rest false e = record { after = omega (arith, rest.after); within = omega (arith, rest.within); none = λ j a b. below rest e j a b (eqb i j) refl }

module _ (f : Filter) (items : Text) (places : List ℕ) (n from : ℕ) where
  -- what the first name that passes is, for those who ask for it
  pub next-first : from ≤ n → First (λ k. passes f (name_at items places k)) from n (next_passing f items places n from)
  unfolding next_passing
  next-first h =
      let e : from + (n - from) ≡ n = omega arith in
      rw e at (first-is (λ k. passes f (name_at items places k)) from (n - from))

  -- from each name passed over the first that passes is the same one
  module _ (j : ℕ) (inv : next_passing f items places n j ≡ next_passing f items places n from) where
    module _ (h : j < n) (at m : ℕ) (ea : at ≡ get_or places (2 * j) 0) (em : m ≡ get_or places (2 * j + 1) 0) (r : Bool) (er : r ≡ passes f (part_at items at m)) where
      looked-at : passes f (name_at items places j) ≡ r
      looked-at = rw (← ea, ← em) (sym er)

      pub passing-here : r ≡ true → j ≡ next_passing f items places n from
      unfolding next_passing
      passing-here e =
          let z : n - j ≡ suc (n - (j + 1)) = omega arith in
          rw (z, looked-at, e) at inv

      pub passing-more : r ≡ false → next_passing f items places n (j + 1) ≡ next_passing f items places n from
      unfolding next_passing
      passing-more e =
          let z : n - j ≡ suc (n - suc j) = omega arith in
          rw add-one (rw (z, looked-at, e) at inv)

    pub passing-none : n ≤ j → j ≡ next_passing f items places n from
    unfolding next_passing
    passing-none h = let z : n - j ≡ 0 = omega arith in rw z at inv

-- the next name stands in the list
pub place-within : (items : Text) (places : List ℕ) (n : ℕ) → ((k : ℕ) → k < n → get_or places (2 * k) 0 + get_or places (2 * k + 1) 0 ≤ length items)
    → (j at m : ℕ) → j < n → at ≡ get_or places (2 * j) 0 → m ≡ get_or places (2 * j + 1) 0 → at + m ≤ length items
place-within items places n h j at m l ea em = omega (arith, h j l)
