-- Four numbers of a table tell a negative; what is stored there, and what stays. Assumes nothing.
use Prim.Native.Nat.{ℕ, zero, suc, ◌+◌, ◌*◌, ◌≤◌, ◌<◌}
use native.Mathlib.Omega.{arith}
use mathlib.Core.Path.{◌≡◌, refl, ap, ◌∙◌}
use mathlib.Core.List.{List, [], ◌∷◌}
use lib.ListN.{length, get_or, set, length-set}
use lib.Seq.{get_or-set_same, get_or-set_other}
use Rattle.meaning.specs.Bytes.{Text}
use Rattle.buffer.specs.Splice.{splice}
use Rattle.buffer.proofs.Splices.{splice-byte, splice-next}
use Rattle.negatives.specs.declared.Negative.{Negative}
use Rattle.negatives.specs.Negatives.{negative_numbers, negative_from, negative_at, excluded_by}
use Rattle.negatives.specs.Making.{PutNegative}

-- the four numbers of number k tell the negative
pub numbers-tell : (t : List ℕ) (k kind at len star : ℕ) → kind ≡ get_or t (negative_numbers * k) 0 → at ≡ get_or t (negative_numbers * k + 1) 0 → len ≡ get_or t (negative_numbers * k + 2) 0 → star ≡ get_or t (negative_numbers * k + 3) 0
    → (n : Negative) → n ≡ negative_from kind at len star → n ≡ negative_at t k
unfolding negative_at
numbers-tell t k kind at len star ek ea el es n e = e ∙ rw (ek, ea, el, es)

-- four numbers stored as those of number k
module _ (t : List ℕ) (k kind at len star : ℕ) where
  abbrev one : List ℕ
  one = set t (negative_numbers * k) kind

  abbrev two : List ℕ
  two = set one (negative_numbers * k + 1) at

  abbrev three : List ℕ
  three = set two (negative_numbers * k + 2) len

  abbrev four : List ℕ
  four = set three (negative_numbers * k + 3) star

  -- their places are there
  module _ (h : negative_numbers * k + negative_numbers ≤ length t) where
    pub second-room : negative_numbers * k + 1 < length one
    second-room = rw (length-set t (negative_numbers * k) kind) (omega arith)

    pub third-room : negative_numbers * k + 2 < length two
    third-room = rw (length-set one (negative_numbers * k + 1) at, length-set t (negative_numbers * k) kind) (omega arith)

    pub fourth-room : negative_numbers * k + 3 < length three
    fourth-room = rw (length-set two (negative_numbers * k + 2) len, length-set one (negative_numbers * k + 1) at, length-set t (negative_numbers * k) kind) (omega arith)

    -- together
    pub four-stored : four ≡ splice t (negative_numbers * k) (kind ∷ at ∷ len ∷ star ∷ [])
    four-stored =
        let i = negative_numbers * k in
        let a : one ≡ splice t i (kind ∷ []) = splice-byte t i kind (omega arith) in
        let b : two ≡ splice one (i + 1) (at ∷ []) = splice-byte one (i + 1) at second-room in
        let c : three ≡ splice two (i + 2) (len ∷ []) = splice-byte two (i + 2) len third-room in
        let d : four ≡ splice three (i + 3) (star ∷ []) = splice-byte three (i + 3) star fourth-room in
        let b' : two ≡ splice t i (kind ∷ at ∷ []) = b ∙ ap (λ (l : List ℕ). splice l (i + 1) (at ∷ [])) a ∙ splice-next t i (kind ∷ []) (at ∷ []) (i + 1) (omega arith) refl in
        let c' : three ≡ splice t i (kind ∷ at ∷ len ∷ []) = c ∙ ap (λ (l : List ℕ). splice l (i + 2) (len ∷ [])) b' ∙ splice-next t i (kind ∷ at ∷ []) (len ∷ []) (i + 2) (omega arith) refl in
        d ∙ ap (λ (l : List ℕ). splice l (i + 3) (star ∷ [])) c' ∙ splice-next t i (kind ∷ at ∷ len ∷ []) (star ∷ []) (i + 3) (omega arith) refl

  stored-size : length four ≡ length t
  stored-size = rw (length-set three (negative_numbers * k + 3) star, length-set two (negative_numbers * k + 2) len, length-set one (negative_numbers * k + 1) at, length-set t (negative_numbers * k) kind)

  -- a number before them stays
  stays : (i : ℕ) → i < negative_numbers * k → get_or four i 0 ≡ get_or t i 0
  stays i l =
      get_or-set_other three (negative_numbers * k + 3) i star 0 (λ e. omega arith)
      ∙ get_or-set_other two (negative_numbers * k + 2) i len 0 (λ e. omega arith)
      ∙ get_or-set_other one (negative_numbers * k + 1) i at 0 (λ e. omega arith)
      ∙ get_or-set_other t (negative_numbers * k) i kind 0 (λ e. omega arith)

  stored-kept : (j : ℕ) → j < k → negative_at four j ≡ negative_at t j
  unfolding negative_at
  stored-kept j l = rw (stays (negative_numbers * j) (omega arith), stays (negative_numbers * j + 1) (omega arith), stays (negative_numbers * j + 2) (omega arith), stays (negative_numbers * j + 3) (omega arith))

  module _ (h : negative_numbers * k + negative_numbers ≤ length t) where
    first-is : get_or four (negative_numbers * k) 0 ≡ kind
    first-is =
        get_or-set_other three (negative_numbers * k + 3) (negative_numbers * k) star 0 (λ e. omega arith)
        ∙ get_or-set_other two (negative_numbers * k + 2) (negative_numbers * k) len 0 (λ e. omega arith)
        ∙ get_or-set_other one (negative_numbers * k + 1) (negative_numbers * k) at 0 (λ e. omega arith)
        ∙ get_or-set_same t (negative_numbers * k) kind 0 (omega arith)

    second_is : get_or four (negative_numbers * k + 1) 0 ≡ at
    second_is =
        get_or-set_other three (negative_numbers * k + 3) (negative_numbers * k + 1) star 0 (λ e. omega arith)
        ∙ get_or-set_other two (negative_numbers * k + 2) (negative_numbers * k + 1) len 0 (λ e. omega arith)
        ∙ get_or-set_same one (negative_numbers * k + 1) at 0 (second-room h)

    third-is : get_or four (negative_numbers * k + 2) 0 ≡ len
    third-is = get_or-set_other three (negative_numbers * k + 3) (negative_numbers * k + 2) star 0 (λ e. omega arith) ∙ get_or-set_same two (negative_numbers * k + 2) len 0 (third-room h)

    fourth-is : get_or four (negative_numbers * k + 3) 0 ≡ star
    fourth-is = get_or-set_same three (negative_numbers * k + 3) star 0 (fourth-room h)

    stored_there : negative_at four k ≡ negative_from kind at len star
    unfolding negative_at
    stored_there = rw (first-is, second_is, third-is, fourth-is)

    -- and tell the negative of the four
    pub stored : PutNegative t k (negative_from kind at len star) four
    stored = record { size = stored-size; kept = stored-kept; there = stored_there }

-- the first k negatives of two tables, where they are the same
pub excluded-kept : (s : Text) (t u : List ℕ) (k : ℕ) → ((j : ℕ) → j < k → negative_at u j ≡ negative_at t j) → (name : Text) → excluded_by s u k name ≡ excluded_by s t k name
excluded-kept s t u zero f name = refl
excluded-kept s t u (suc k) f name = rw (excluded-kept s t u k (λ j l. f j (omega arith)) name, f k (omega arith))
