-- What is written is read back: numbers, texts, lists of records; and what an accepted list holds. Assumes nothing.
use mathlib.Core.Path.{◌≡◌, refl, ap, ◌∙◌}
use mathlib.Core.Bool.{Bool, true, false, cond}
use mathlib.Core.List.{List, [], ◌∷◌, ◌++◌, map, append_assoc}
use mathlib.Core.Option.{none}
use Prim.Native.Nat.{ℕ, zero, suc, ◌+◌, ◌-◌, ◌*◌, ◌/◌, ◌%◌, ◌^◌, ◌≤◌, ◌<◌}
use native.Mathlib.Omega.{arith}
use borrow.Author.Tests.{lt-ltb, le-ltb, ne_eqb, ltb-false, le-leb}
use lib.Dec.{leb, ltb}
use lib.ListN.{length, length-append}
use lib.Seq.{take-append_seam, drop-append_seam}
use Rattle.meaning.specs.Bytes.{Text, each}
use Rattle.meaning.specs.Limits.{number_groups, largest_number}
use Rattle.meaning.specs.Spec.{Answer, accepted, refused}
use Rattle.meaning.specs.Bytes.{In, here, there}
use Rattle.meaning.specs.Number.{groups, number_bytes, text_bytes, record_bytes, Step, took, no, Reader, read_groups, read_number, read_bytes, read_text}
use Rattle.meaning.specs.Lists.{with_first, record_then, records_from, read_list}
use Rattle.promises.proofs.Laws.{each_append}

-- a number of one group is read back
round-small : (k n : ℕ) (s : Text) → ltb n 128 ≡ true → read_groups (suc k) (groups (suc k) n ++ s) ≡ took n s
round-small k n s e = simp e

-- one of more groups, where the rest is
round-large : (k n : ℕ) (s : Text) → 128 ≤ n → read_groups k (groups k (n / 128) ++ s) ≡ took (n / 128) s → read_groups (suc k) (groups (suc k) n ++ s) ≡ took n s
round-large k n s h ih =
    let a : 128 ≤ 128 + n % 128 = omega arith in
    let b : n / 128 ≡ 0 → ⊥ = λ e. omega arith in
    let v : 128 + n % 128 - 128 + n / 128 * 128 ≡ n = omega arith in
    rw (le-ltb n 128 h, le-ltb (128 + n % 128) 128 a, ih, ne_eqb (n / 128) 0 b, v)

-- a number below 128 ^ (k + 1) is read back
round-groups : (k n : ℕ) (s : Text) → n < 128 ^ suc k → read_groups (suc k) (groups (suc k) n ++ s) ≡ took n s
round-groups zero n s h = round-small zero n s (lt-ltb n 128 (omega arith))
round-groups (suc k) n s h = go (round-groups k (n / 128) s (omega arith)) (ltb n 128) refl
  where
    go : read_groups (suc k) (groups (suc k) (n / 128) ++ s) ≡ took (n / 128) s → (b : Bool) → ltb n 128 ≡ b → read_groups (suc (suc k)) (groups (suc (suc k)) n ++ s) ≡ took n s
    go ih true e = round-small (suc k) n s e
    go ih false e = round-large (suc k) n s (ltb-false n 128 e) ih

-- a number is read back
pub read_number_lem : (n : ℕ) (s : Text) → n ≤ largest_number → read_number (number_bytes n ++ s) ≡ took n s
unfolding read_number number_bytes
read_number_lem n s h = round-groups (number_groups - 1) n s (omega arith)

-- so are bytes
pub read-bytes : (t s : Text) → read_bytes (length t) (t ++ s) ≡ took t s
unfolding read_bytes
read-bytes t s = rw (le-leb (length t) (length (t ++ s)) (rw (length-append t s) (omega arith)), take-append_seam t s, drop-append_seam t s)

-- and a text with its length
pub read-text : (t s : Text) → length t ≤ largest_number → read_text (text_bytes t ++ s) ≡ took t s
unfolding read_text text_bytes
read-text t s h = rw (append_assoc (number_bytes (length t)) t s, read_number_lem (length t) (t ++ s) h) (read-bytes t s)

-- a number has a byte at least
pub number-long : (n : ℕ) → 0 < length (number_bytes n)
unfolding number_bytes
number-long n = go (ltb n 128)
  where
    go : (b : Bool) → 0 < length (cond {A = Text} b (n ∷ []) ((128 + n % 128) ∷ groups (number_groups - 1) (n / 128)))
    go true = omega arith
    go false = omega arith

-- lists of records

-- the records of one list and then another
pub records-append : (l m : List Text) → record_bytes (l ++ m) ≡ record_bytes l ++ record_bytes m
unfolding record_bytes
records-append l m = each_append l m text_bytes

module _ {B : Type 0} (one : ℕ → Reader B) where
  records-step : (k i : ℕ) (t : Text) (b : B) (rest : Text) → 0 < length t → one i t ≡ took b rest → records_from one (suc k) i t ≡ with_first b (records_from one k (suc i) rest)
  records-step k i [] b rest h e = absurd (omega arith)
  records-step k i (c ∷ t) b rest h e = rw e

  -- what is written for each member, and read as its value, is read as the values
  pub records-read : {A : Type 0} (w : A → Text) (v : A → B) (l : List A) (k i : ℕ)
      → ((x : A) → In x l → 0 < length (w x))
      → ((x : A) → In x l → (j : ℕ) → j < i + length l → (s : Text) → one j (w x ++ s) ≡ took (v x) s)
      → length (each l w) ≤ k
      → records_from one k i (each l w) ≡ accepted (map v l)
  records-read w v [] zero i long reads h = refl
  records-read w v [] (suc k) i long reads h = refl
  records-read w v (x ∷ l) zero i long reads h = absurd (omega (arith, long x here, length-append (w x) (each l w)))
  records-read w v (x ∷ l) (suc k) i long reads h =
      let a = long x here in
      let n = length-append (w x) (each l w) in
      let p = records-step k i (w x ++ each l w) (v x) (each l w) (omega arith) (reads x here i (omega arith) (each l w)) in
      let q = records-read w v l k (suc i) (λ y m. long y (there m)) (λ y m j b s. reads y (there m) j (omega arith) s) (omega arith) in
      p ∙ ap (with_first (v x)) q

-- what an accepted list holds

abbrev AllPass : {B : Type 0} → (B → Type 0) → Answer (List B) → Type 0
AllPass P (accepted l) = (x : _) → In x l → P x
AllPass P (refused n r) = Unit {0}

abbrev Counts : {B : Type 0} → ℕ → ℕ → Answer (List B) → Type 0
Counts limit i (accepted l) = i + length l ≤ limit
Counts limit i (refused n r) = Unit {0}

module _ {B : Type 0} where
  first_passes : (P : B → Type 0) (b : B) → P b → (l : List B) → ((x : B) → In x l → P x) → (x : B) → In x (b ∷ l) → P x
  first_passes P b p l f x here = p
  first_passes P b p l f x (there m) = f x m

  all_first : (P : B → Type 0) (b : B) → P b → (a : Answer (List B)) → AllPass P a → AllPass P (with_first b a)
  all_first P b p (accepted l) f = first_passes P b p l f
  all_first P b p (refused n r) f = tt

  all-step : (P : B → Type 0) (i : ℕ) (s : Step B) (g : Text → Answer (List B)) → ((b : B) (rest : Text) → s ≡ took b rest → P b) → ((t : Text) → AllPass P (g t)) → AllPass P (record_then i s g)
  all-step P i (took b rest) g f h = all_first P b (f b rest refl) (g rest) (h rest)
  all-step P i (no n) g f h = tt

  count-first : (limit i : ℕ) (b : B) (a : Answer (List B)) → Counts limit (suc i) a → Counts limit i (with_first b a)
  count-first limit i b (accepted l) h = omega arith
  count-first limit i b (refused n r) h = tt

  count-step : (limit i : ℕ) (s : Step B) (g : Text → Answer (List B)) → ((b : B) (rest : Text) → s ≡ took b rest → i < limit) → (i < limit → (t : Text) → Counts limit (suc i) (g t)) → Counts limit i (record_then i s g)
  count-step limit i (took b rest) g f h = count-first limit i b (g rest) (h (f b rest refl) rest)
  count-step limit i (no n) g f h = tt

module _ {B : Type 0} (one : ℕ → Reader B) where
  all-records : (P : B → Type 0) → ((j : ℕ) (s : Text) (b : B) (rest : Text) → one j s ≡ took b rest → P b) → (k i : ℕ) (s : Text) → AllPass P (records_from one k i s)
  all-records P f zero i [] = λ x m. elim m [ ]
  all-records P f zero i (c ∷ s) = tt
  all-records P f (suc k) i [] = λ x m. elim m [ ]
  all-records P f (suc k) i (c ∷ s) = all-step P i (one i (c ∷ s)) (λ rest. records_from one k (suc i) rest) (f i (c ∷ s)) (λ t. all-records P f k (suc i) t)

  count-records : (limit : ℕ) → ((j : ℕ) (s : Text) (b : B) (rest : Text) → one j s ≡ took b rest → j < limit) → (k i : ℕ) (s : Text) → i ≤ limit → Counts limit i (records_from one k i s)
  count-records limit f zero i [] h = omega arith
  count-records limit f zero i (c ∷ s) h = tt
  count-records limit f (suc k) i [] h = omega arith
  count-records limit f (suc k) i (c ∷ s) h = count-step limit i (one i (c ∷ s)) (λ rest. records_from one k (suc i) rest) (f i (c ∷ s)) (λ lt t. count-records limit f k (suc i) t lt)

  -- every member of an accepted list has what every record read has
  pub list_all : (P : B → Type 0) → ((j : ℕ) (s : Text) (b : B) (rest : Text) → one j s ≡ took b rest → P b) → (bytes : ℕ) (s : Text) (l : List B) → read_list bytes one s ≡ accepted l → (x : B) → In x l → P x
  unfolding read_list
  list_all P f bytes s l e = go (leb (length s) bytes) e
    where
      go : (b : Bool) → cond b (records_from one (length s) 0 s) (refused 12 none) ≡ accepted l → (x : B) → In x l → P x
      go true p = rw p at (all-records P f (length s) 0 s)
      go false p = absurd (let z : ◌≡◌ {A = ℕ} 0 1 = cc in omega arith)

  -- an accepted list has no more members than numbers below the limit that reading asks
  pub list_count : (limit : ℕ) → ((j : ℕ) (s : Text) (b : B) (rest : Text) → one j s ≡ took b rest → j < limit) → (bytes : ℕ) (s : Text) (l : List B) → read_list bytes one s ≡ accepted l → length l ≤ limit
  unfolding read_list
  list_count limit f bytes s l e = go (leb (length s) bytes) e
    where
      go : (b : Bool) → cond b (records_from one (length s) 0 s) (refused 12 none) ≡ accepted l → length l ≤ limit
      go true p = let h : 0 + length l ≤ limit = rw p at (count-records limit f (length s) 0 s (omega arith)) in omega arith
      go false p = absurd (let z : ◌≡◌ {A = ℕ} 0 1 = cc in omega arith)
