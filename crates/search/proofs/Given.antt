-- What the hits of a listing give is what its specs give, and each of them is good. Assumes nothing.
use mathlib.Core.Path.{◌≡◌, refl, sym, ap, ◌∙◌}
use mathlib.Core.Bool.{Bool, true, false, cond}
use mathlib.Core.List.{List, [], ◌∷◌, ◌++◌, append-nil}
use Prim.Native.Nat.{ℕ, zero, suc, ◌+◌, ◌/◌, ◌%◌, ◌≤◌, ◌<◌}
use native.Mathlib.Omega.{arith}
use native.Mathlib.Numerals.{add-one}
use borrow.Author.Tests.{eqb-true, eqb-false}
use lib.Dec.{eqb}
use lib.ListN.{length, get_or}
use Rattle.meaning.specs.Bytes.{Text, each}
use Rattle.meaning.specs.Limits.{item_count}
use Rattle.promises.proofs.Laws.{each_append}
use Rattle.parse.specs.Places.{part_at}
use Rattle.filter.specs.Filters.{name_at}
use Rattle.match_row.specs.Pairs.{object_bytes}
use Rattle.match_row.proofs.Fields.{pair-stands, object-stands}
use Rattle.search.specs.Hits.{across, spec_at, pair_gives, spec_gives, group_gives, objects_give, hit_stride, hit_of, hit_if, pair_hits, spec_hits, group_hits, object_hits, hit_bytes}
use Rattle.search.specs.Noting.{Good, AllGood}
use Rattle.search.proofs.Across.{across-few}

-- some hits give a text, and each of them is good
pub record Gives (f : ℕ → Text) (good : ℕ → Type 0) (codes : List ℕ) (t : Text) : Type 0 where
  pub gives : each codes f ≡ t
  pub are : (k : ℕ) → k < length codes → good (get_or codes k 0)

module _ (f : ℕ → Text) (good : ℕ → Type 0) where
  pub gives_none : Gives f good [] []
  gives_none = record { gives = refl; are = λ k h. absurd (omega arith) }

  good-both : (a b : List ℕ) → ((k : ℕ) → k < length a → good (get_or a k 0)) → ((k : ℕ) → k < length b → good (get_or b k 0)) → (k : ℕ) → k < length (a ++ b) → good (get_or (a ++ b) k 0)
  good-both [] b g h k l = h k l
  good-both (x ∷ a) b g h zero l = g 0 (omega arith)
  good-both (x ∷ a) b g h (suc k) l = good-both a b (λ k m. g (suc k) (omega arith)) h k (omega arith)

  pub gives_both : (a b : List ℕ) (s t : Text) → Gives f good a s → Gives f good b t → Gives f good (a ++ b) (s ++ t)
  gives_both a b s t g h =
      record {
        gives = each_append a b f ∙ ap (λ (x : Text). x ++ each b f) g.gives ∙ ap (λ (x : Text). s ++ x) h.gives;
        are = good-both a b g.are h.are;
      }

  gives-across : (codes : ℕ → List ℕ) (text : ℕ → Text) (i k : ℕ) → ((x : ℕ) → i ≤ x → x < i + k → Gives f good (codes x) (text x)) → Gives f good (across codes i k) (across text i k)
  gives-across codes text i zero h = gives_none
  gives-across codes text i (suc k) h = gives_both (codes i) (across codes (suc i) k) (text i) (across text (suc i) k) (h i (omega arith) (omega arith)) (gives-across codes text (suc i) k (λ x a b. h x (omega arith) (omega arith)))

  -- one hit, unless it takes no bytes
  gives-if : (t : Text) (hit : ℕ) → ((0 < length t) → (f hit ≡ t) × good hit) → Gives f good (hit_if (length t) hit) t
  gives-if t hit h = go (eqb (length t) 0) refl
    where
      nothing : (t : Text) → length t ≡ 0 → [] ≡ t
      nothing [] e = refl
      nothing (x ∷ t) e = absurd (omega arith)

      go : (b : Bool) → eqb (length t) 0 ≡ b → Gives f good (cond b [] (hit ∷ [])) t
      go true q = record { gives = nothing t (eqb-true (length t) 0 q); are = λ k l. absurd (omega arith) }
      go false q =
          let n = eqb-false (length t) 0 q in
          let r = h (positive (length t) n) in
          record { gives = append-nil (f hit) ∙ r.0; are = one r.1 }
        where
          positive : (n : ℕ) → (n ≡ 0 → ⊥) → 0 < n
          positive zero e = absurd (e refl)
          positive (suc n) e = omega arith

          one : good hit → (k : ℕ) → k < length (hit ∷ []) → good (get_or (hit ∷ []) k 0)
          one g zero l = g
          one g (suc k) l = absurd (omega arith)

-- a hit tells its spec and its item field
hit-spec : (i field : ℕ) → field ≤ item_count → hit_of i field / hit_stride ≡ i
hit-spec i field h = omega arith

hit-field : (i field : ℕ) → field ≤ item_count → hit_of i field % hit_stride ≡ field
hit-field i field h = omega arith

module _ (back : Bool) (specs : Text) (table : List ℕ) (group : ℕ) (items : Text) (places : List ℕ) (n : ℕ) (few : n ≤ item_count) where
  abbrev f : ℕ → Text
  f = hit_bytes back specs table items places

  abbrev good : ℕ → Type 0
  good = Good back specs table group items places n

  -- a name under a spec
  pair-gives : (gone : Text → Bool) (i j : ℕ) → i < group → j < n → Gives f good (pair_hits back gone (spec_at specs table i) items places i j) (pair_gives back gone (spec_at specs table i) items places i j)
  pair-gives gone i j hi hj = gives-if f good (pair_gives back gone (spec_at specs table i) items places i j) (hit_of i (j + 1)) here
    where
      field : j + 1 ≤ item_count
      field = omega arith

      text : 0 < length (pair_gives back gone (spec_at specs table i) items places i j) → f (hit_of i (j + 1)) ≡ pair_gives back gone (spec_at specs table i) items places i j
      text p = rw (hit-spec i (j + 1) field, hit-field i (j + 1) field, add-one j) (sym (pair-stands back gone i j (name_at items places j) (spec_at specs table i) p))

      here : 0 < length (pair_gives back gone (spec_at specs table i) items places i j) → (f (hit_of i (j + 1)) ≡ pair_gives back gone (spec_at specs table i) items places i j) × good (hit_of i (j + 1))
      here p = (
        text p,
        record {
          spec-there = rw (hit-spec i (j + 1) field) hi;
          item-there = rw (hit-field i (j + 1) field) (omega arith);
          gives = rw (text p) p;
        },
      )

  pub spec-gives : (gone : Text → Bool) (i : ℕ) → i < group → Gives f good (spec_hits back gone specs table items places n i) (spec_gives back gone specs table items places n i)
  spec-gives gone i h = gives-across f good (pair_hits back gone (spec_at specs table i) items places i) (pair_gives back gone (spec_at specs table i) items places i) 0 n (λ j a b. pair-gives gone i j h (omega arith))

  pub group-gives : (gone : Text → Bool) → Gives f good (group_hits back gone specs table group items places n) (group_gives back gone specs table group items places n)
  group-gives gone = gives-across f good (spec_hits back gone specs table items places n) (spec_gives back gone specs table items places n) 0 group (λ i a b. spec-gives gone i (omega arith))

  pub objects-give : Gives f good (object_hits specs table group) (objects_give specs table group)
  objects-give = gives-across f good (λ i. hit_if (length (object_bytes i (spec_at specs table i))) (hit_of i 0)) (λ i. object_bytes i (spec_at specs table i)) 0 group (λ i a b. one i (omega arith))
    where
      zero-small : 0 ≤ item_count
      zero-small = omega arith

      one : (i : ℕ) → i < group → Gives f good (hit_if (length (object_bytes i (spec_at specs table i))) (hit_of i 0)) (object_bytes i (spec_at specs table i))
      one i h = gives-if f good (object_bytes i (spec_at specs table i)) (hit_of i 0) here
        where
          text : f (hit_of i 0) ≡ object_bytes i (spec_at specs table i)
          text = rw (hit-spec i 0 zero-small, hit-field i 0 zero-small) (sym (object-stands back i (part_at items 0 0) (spec_at specs table i)))

          here : 0 < length (object_bytes i (spec_at specs table i)) → (f (hit_of i 0) ≡ object_bytes i (spec_at specs table i)) × good (hit_of i 0)
          here p = (text, record { spec-there = rw (hit-spec i 0 zero-small) h; item-there = rw (hit-field i 0 zero-small) (omega arith); gives = rw text p })

  -- hits that give a text are good
  pub gives-good : (codes : List ℕ) (t : Text) → Gives f good codes t → AllGood back specs table group items places n codes
  gives-good codes t g = record { each-good = g.are }

-- ---- there is room for them

hit-one : (size hit : ℕ) → length (hit_if size hit) ≤ 1
hit-one size hit = go (eqb size 0)
  where
    go : (b : Bool) → length (cond b [] (hit ∷ [])) ≤ 1
    go true = omega arith
    go false = omega arith

-- one spec has no more hits than there are names
pub spec-few-hits : (back : Bool) (gone : Text → Bool) (specs : Text) (table : List ℕ) (items : Text) (places : List ℕ) (n i : ℕ) → length (spec_hits back gone specs table items places n i) ≤ n
spec-few-hits back gone specs table items places n i = across-few (pair_hits back gone (spec_at specs table i) items places i) (λ j. hit-one (length (pair_gives back gone (spec_at specs table i) items places i j)) (hit_of i (j + 1))) 0 n

-- and there are no more object sources than specs
pub objects-few-hits : (specs : Text) (table : List ℕ) (group : ℕ) → length (object_hits specs table group) ≤ group
objects-few-hits specs table group = across-few (λ i. hit_if (length (object_bytes i (spec_at specs table i))) (hit_of i 0)) (λ i. hit-one (length (object_bytes i (spec_at specs table i))) (hit_of i 0)) 0 group
