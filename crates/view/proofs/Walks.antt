-- Where the records of a list stand, and the walk to one of them. Assumes nothing.
use mathlib.Core.Path.{◌≡◌, refl, sym, ap, ◌∙◌}
use Prim.Native.Nat.{ℕ, zero, suc, ◌+◌, ◌-◌, ◌<◌, ◌≤◌}
use native.Mathlib.Omega.{arith}
use lib.ListN.{length, drop, length-drop, drop_of_length-le}
use lib.Seq.{drop-drop, drop-length}
use Rattle.meaning.specs.Bytes.{Text}
use Rattle.meaning.specs.Number as meaning
use Rattle.meaning.specs.View.{left_by}
use Rattle.parse.specs.Places.{part_at}
use Rattle.parse.proofs.Parts.{part_length}
use Rattle.std.specs.Prelude.{Option, None, Some, Result, Ok, Err}
use Rattle.refusal.specs.declared.Refusal.{Refusal}
use Rattle.list.specs.declared.cursor.Record.{Record}
use Rattle.list.specs.declared.stretch.Stretch.{Stretch}
use Rattle.list.specs.Cursor.{step_at}
use Rattle.list.proofs.Texts.{TextAt, stands, malformed, text_at_lem}
use Rattle.list.proofs.Steps.{Taken, step-taken, step_end, step-refused}
use Rattle.view.specs.Places.{after_records, extent_of, extent_at, text_at}

-- so many bytes at a place, as an extent
extent-bytes : (s : Text) (start len : ℕ) → start + len ≤ length s → extent_of s (meaning.took (part_at s start len) (drop (start + len) s)) ≡ record { at = start; len = len }
extent-bytes s start len h =
    let e : length (drop (start + len) s) ≡ length s - (start + len) = length-drop (start + len) s in
    let p : length s - (length s - (start + len)) - len ≡ start = omega arith in
    rw (e, part_length s start len h, p)

-- the answers of `next_record`
module _ (s : Text) (at : ℕ) (w : Result (Option (Record Stretch)) Refusal) (e : w ≡ step_at s at) where
  module _ (o : Option (Record Stretch)) (wo : w ≡ Ok o) (r : Record Stretch) (is : o ≡ Some r) where
    taken : Taken s at r.value.at r.value.len r.next.at
    taken = step-taken s at r (sym e ∙ wo ∙ ap (λ (x : Option (Record Stretch)). Ok x) is)

    pub record-found : r.value ≡ extent_of s (meaning.read_text (drop at s))
    record-found = rw (taken.reads, taken.ends) (sym (extent-bytes s r.value.at r.value.len (omega (arith, taken.ends, taken.within))))

    pub record-within : r.value.at + r.value.len ≤ length s
    record-within = omega (arith, taken.ends, taken.within)

  pub record-end : (o : Option (Record Stretch)) → w ≡ Ok o → o ≡ None → record { at = length s; len = 0 } ≡ extent_of s (meaning.read_text (drop at s))
  unfolding meaning.read_text meaning.read_number
  record-end o wo is = rw (drop_of_length-le s (step_end s at (sym e ∙ wo ∙ ap (λ (x : Option (Record Stretch)). Ok x) is)))

  pub record-none : (n : Refusal) → w ≡ Err n → record { at = length s; len = 0 } ≡ extent_of s (meaning.read_text (drop at s))
  record-none n is = rw (step-refused s at n (sym e ∙ is)).reads

-- what follows an extent is what reading left
extent-left : (s : Text) (at : ℕ) → TextAt s at → drop ((extent_of s (meaning.read_text (drop at s))).at + (extent_of s (meaning.read_text (drop at s))).len) s ≡ left_by (meaning.read_text (drop at s))
extent-left s at (stands start len f k g) =
    let p : extent_of s (meaning.read_text (drop at s)) ≡ record { at = start; len = len } = ap (extent_of s) g ∙ extent-bytes s start len k in
    ap (λ (x : Stretch). drop (x.at + x.len) s) p ∙ sym (ap left_by g)
extent-left s at (malformed g) =
    let z : length s + 0 ≡ length s = omega arith in
    ap (λ (x : meaning.Step Text). drop ((extent_of s x).at + (extent_of s x).len) s) g ∙ ap (λ (m : ℕ). drop m s) z ∙ drop-length s ∙ sym (ap left_by g)

-- the walk has passed i records
pub record Walk (s : Text) (n i at : ℕ) : Type 0 where
  pub count : i ≤ n
  pub left : after_records (n - i) (drop at s) ≡ after_records n s

-- none at the start
pub walk-starts : (s : Text) (n : ℕ) → Walk s n 0 0
walk-starts s n = let e : n - 0 ≡ n = omega arith in record { count = omega arith; left = rw e }

module _ (s : Text) (n i at : ℕ) (w : Walk s n i at) where
  -- one more
  pub walk_more : i < n → (e : Stretch) → e ≡ extent_of s (meaning.read_text (drop at s)) → Walk s n (i + 1) (e.at + e.len)
  walk_more h e is =
      let k : n - i ≡ suc (n - (i + 1)) = omega arith in
      let d : drop (e.at + e.len) s ≡ left_by (meaning.read_text (drop at s)) = ap (λ (x : Stretch). drop (x.at + x.len) s) is ∙ extent-left s at (text_at_lem s at) in
      let p : after_records (suc (n - (i + 1))) (drop at s) ≡ after_records n s = rw k at w.left in
      record { count = omega arith; left = ap (after_records (n - (i + 1))) d ∙ p }

  -- after n of them the next is the one
  pub walk_ends : n ≤ i → (e : Stretch) → e ≡ extent_of s (meaning.read_text (drop at s)) → e ≡ extent_at s n
  unfolding extent_at
  walk_ends h e is =
      let k : n - i ≡ 0 = omega arith in
      let p : drop at s ≡ after_records n s = rw k at w.left in
      is ∙ ap (λ (x : Text). extent_of s (meaning.read_text x)) p

-- a list after some of its records is an end of it
after-drop : (n : ℕ) (s : Text) → (at : ℕ) × (after_records n s ≡ drop at s)
after-drop zero s = (0, refl)
after-drop (suc n) s =
    let e = extent-left s 0 (text_at_lem s 0) in
    let q = after-drop n (left_by (meaning.read_text s)) in
    let m : ℕ = (extent_of s (meaning.read_text s)).at + (extent_of s (meaning.read_text s)).len in
    (m + q.0, q.1 ∙ ap (drop q.0) (sym e) ∙ drop-drop q.0 m s)

-- where record n was read, its extent has its bytes
module _ (s : Text) (n : ℕ) (t rest : Text) (e : meaning.read_text (after_records n s) ≡ meaning.took t rest) where
  standing : (start : ℕ) × (len : ℕ) × (start + len ≤ length s) × (part_at s start len ≡ t) × (drop (start + len) s ≡ rest)
  standing = let q = after-drop n s in go q.0 q.1 (text_at_lem s q.0)
    where
      go : (at : ℕ) → after_records n s ≡ drop at s → TextAt s at → (start : ℕ) × (len : ℕ) × (start + len ≤ length s) × (part_at s start len ≡ t) × (drop (start + len) s ≡ rest)
      go at d (stands start len f k g) =
          let p : meaning.took t rest ≡ meaning.took (part_at s start len) (drop (start + len) s) = sym e ∙ ap meaning.read_text d ∙ g in
          (start, len, k, (cc), (cc))
      go at d (malformed g) = absurd (let p : meaning.took t rest ≡ meaning.no 13 = sym e ∙ ap meaning.read_text d ∙ g in let z : ◌≡◌ {A = ℕ} 0 1 = cc in omega arith)

  pub extent-text : text_at s (extent_at s n) ≡ t
  unfolding extent_at
  extent-text =
      let q = standing in
      let g : meaning.took t rest ≡ meaning.took (part_at s q.0 q.1) (drop (q.0 + q.1) s) = cc in
      ap (λ (x : meaning.Step Text). text_at s (extent_of s x)) (e ∙ g) ∙ ap (text_at s) (extent-bytes s q.0 q.1 q.2) ∙ q.3

  -- and it and what follows it stand in the list
  pub extent-fits : length t + length rest ≤ length s
  extent-fits =
      let q = standing in
      omega (arith, q.2, ap length q.3, part_length s q.0 q.1 q.2, ap length q.4, length-drop (q.0 + q.1) s)
