-- A run sorted by source: its heads are the rows that are the first of their source, and their sources take as many bytes in any order.
-- Assumes nothing.
use mathlib.Core.Path.{◌≡◌, refl, ap, ◌∙◌}
use mathlib.Core.Bool.{Bool, true, false, cond}
use mathlib.Core.List.{List, [], ◌∷◌}
use Prim.Native.Nat.{ℕ, suc, ◌+◌, ◌*◌, ◌≤◌, ◌<◌}
use native.Mathlib.Omega.{arith}
use lib.ListN.{length, get_or, drop, length-append}
use lib.Seq.{drop-drop}
use Rattle.meaning.specs.Bytes.{Text}
use Rattle.promises.proofs.Laws.{same_refl}
use Rattle.text.proofs.Rests.{rest-cons, rest_end}
use Rattle.order.specs.Sorting.{insert_by, sort_by, run_of, heads_after, heads}
use Rattle.keys.specs.Keys.{same_at, not_after, place_key, source_key}
use Rattle.order.specs.Keys.{sort_places}
use Rattle.order.proofs.Heads.{heads-sort, place-sort}
use Rattle.conflict.specs.declared.sources.HeadsSize.{HeadsSize}
use Rattle.conflict.specs.Sizes.{conflict_source_most}
use Rattle.conflict.specs.Shared.{OneRun, run_bytes, source_at, sources_at, firsts_at, Heads}

-- the head of a run stands before the heads that follow the run
heads-run : (one : ℕ → ℕ → Bool) (x : ℕ) (l : List ℕ) → heads one (x ∷ l) ≡ x ∷ heads one (drop (run_of (one x) l) l)
heads-run one x l = ap (λ (k : List ℕ). x ∷ k) (go l)
  where
    go : (l : List ℕ) → heads_after one x l ≡ heads one (drop (run_of (one x) l) l)
    go [] = refl
    go (y ∷ l) = at (one x y) refl (go l)
      where
        at : (b : Bool) → one x y ≡ b → heads_after one x l ≡ heads one (drop (run_of (one x) l) l) → cond b (heads_after one x l) (y ∷ heads_after one y l) ≡ heads one (drop (run_of (one x) (y ∷ l)) (y ∷ l))
        at true e i = rw e i
        at false e i = rw e

abbrev one : Text → ℕ → ℕ → Bool
one s = same_at source_key s

module _ (s : Text) (l : List ℕ) (i : ℕ) (h : i < length l) (end : ℕ) (run : end ≡ i + run_of (one s (get_or l i 0)) (drop i l)) where
  heads-next : heads (one s) (drop i l) ≡ get_or l i 0 ∷ heads (one s) (drop end l)
  heads-next =
      let p = get_or l i 0 in
      let t = drop (i + 1) l in
      let r : run_of (one s p) (drop i l) ≡ suc (run_of (one s p) t) = rw (rest-cons l i h, same_refl (source_key s p)) in
      let k : i + 1 + run_of (one s p) t ≡ end = omega (arith, r) in
      let q : drop (run_of (one s p) t) t ≡ drop end l = drop-drop (run_of (one s p) t) (i + 1) l ∙ ap (λ (n : ℕ). drop n l) k in
      ap (heads (one s)) (rest-cons l i h) ∙ heads-run (one s) p t ∙ ap (λ (k : List ℕ). p ∷ heads (one s) k) q

-- the heads before a position are counted and measured
pub record Counting (s : Text) (l : List ℕ) (i count size : ℕ) : Type 0 where
  pub within : i ≤ length l
  pub few : count ≤ i
  pub counted : count + length (heads (one s) (drop i l)) ≡ length (heads (one s) l)
  pub measured : size + length (sources_at s (heads (one s) (drop i l))) ≡ length (sources_at s (heads (one s) l))
  pub small : size ≤ count * conflict_source_most

module _ (s : Text) (l : List ℕ) (i count size : ℕ) (m : Counting s l i count size) where
  module _ (h : i < length l) (end : ℕ) (run : end ≡ i + run_of (one s (get_or l i 0)) (drop i l)) (begun : i < end) (room : end ≤ length l) (p n : ℕ) (ep : p ≡ get_or l i 0) (en : n ≡ length (source_at s p)) (few : n ≤ conflict_source_most) where
    pub counting_more : Counting s l end (count + 1) (size + n)
    unfolding sources_at source_at
    counting_more =
        let q = heads-next s l i h end run in
        let e : n ≡ length (source_at s (get_or l i 0)) = en ∙ ap (λ (x : ℕ). length (source_at s x)) ep in
        record {
          within = room;
          few = omega (arith, m.few);
          counted = omega (arith, m.counted, ap length q);
          measured = omega (arith, m.measured, ap (λ (k : List ℕ). length (sources_at s k)) q, length-append (source_at s (get_or l i 0)) (sources_at s (heads (one s) (drop end l))));
          small = omega (arith, m.small);
        }

  pub counting-done : length l ≤ i → Heads s l (record { count = count; size = size })
  unfolding sources_at
  counting-done h =
      let z = rest_end l i h in
      record {
        count-is = omega (arith, m.counted, ap (λ (x : List ℕ). length (heads (one s) x)) z);
        count_small = omega (arith, m.few, m.within);
        size_is = omega (arith, m.measured, ap (λ (x : List ℕ). length (sources_at s (heads (one s) x))) z);
        size_small = omega (arith, m.small, m.few, m.within);
      }

-- a sort leaves how many places there are and how many bytes their sources take
module _ (s : Text) (le : ℕ → ℕ → Bool) where
  insert-count : (x : ℕ) (l : List ℕ) → length (insert_by le x l) ≡ suc (length l)
  insert-count x [] = refl
  insert-count x (y ∷ l) = go (le x y) (insert-count x l)
    where
      go : (b : Bool) → length (insert_by le x l) ≡ suc (length l) → length (cond b (x ∷ y ∷ l) (y ∷ insert_by le x l)) ≡ suc (suc (length l))
      go true i = refl
      go false i = ap suc i

  sort-count : (l : List ℕ) → length (sort_by le l) ≡ length l
  sort-count [] = refl
  sort-count (x ∷ l) = insert-count x (sort_by le l) ∙ ap suc (sort-count l)

  sources-cons : (x : ℕ) (l : List ℕ) → length (sources_at s (x ∷ l)) ≡ length (source_at s x) + length (sources_at s l)
  unfolding sources_at source_at
  sources-cons x l = length-append (source_at s x) (sources_at s l)

  insert-size : (x : ℕ) (l : List ℕ) → length (sources_at s (insert_by le x l)) ≡ length (source_at s x) + length (sources_at s l)
  insert-size x [] = sources-cons x []
  insert-size x (y ∷ l) = go (le x y) (insert-size x l)
    where
      go : (b : Bool) → length (sources_at s (insert_by le x l)) ≡ length (source_at s x) + length (sources_at s l) → length (sources_at s (cond b (x ∷ y ∷ l) (y ∷ insert_by le x l))) ≡ length (source_at s x) + length (sources_at s (y ∷ l))
      go true i = sources-cons x (y ∷ l)
      go false i = omega (arith, i, sources-cons y l, sources-cons y (insert_by le x l))

  sort-size : (l : List ℕ) → length (sources_at s (sort_by le l)) ≡ length (sources_at s l)
  sort-size [] = refl
  sort-size (x ∷ l) = omega (arith, insert-size x (sort_by le l), sort-size l, sources-cons x l)

-- `sorted_run_size`: e is the run l sorted by source, g the same by place
module _ (s : Text) (l e g : List ℕ) (run : OneRun s l) (sorted : e ≡ sort_places source_key s l) (placed : g ≡ sort_places place_key s e) where
  pub run-back : g ≡ l
  run-back = placed ∙ rw sorted (place-sort s (not_after source_key s) l run.ascends)

  pub run-again : OneRun s g
  run-again = rw run-back run

  pub run-bytes : (r : ℕ) → r ≡ length (run_bytes s g) → r ≡ length (run_bytes s l)
  run-bytes r h = h ∙ ap (λ (k : List ℕ). length (run_bytes s k)) run-back

  heads-are : heads (one s) e ≡ sort_places source_key s (firsts_at s g)
  heads-are = rw (sorted, run-back) (heads-sort source_key s l)

  module _ (h : HeadsSize) (m : Heads s e h) where
    pub firsts-counted : h.count ≡ length (firsts_at s g)
    firsts-counted = m.count-is ∙ ap length heads-are ∙ sort-count s (not_after source_key s) (firsts_at s g)

    pub firsts-measured : h.size ≡ length (sources_at s (firsts_at s g))
    firsts-measured = m.size_is ∙ ap (λ (k : List ℕ). length (sources_at s k)) heads-are ∙ sort-size s (not_after source_key s) (firsts_at s g)
