-- The negatives of a group, added to a table one by one. Assumes nothing.
use Prim.Native.Nat.{ℕ, ◌+◌, ◌*◌, ◌≤◌, ◌<◌}
use native.Mathlib.Nat.{eq-or-lt_of_le}
use native.Mathlib.Numerals.{add-one}
use native.Mathlib.Omega.{arith}
use mathlib.Core.Path.{◌≡◌, refl, sym, ap, ◌∙◌}
use mathlib.Core.Bool.{Bool, true, false, not, cond}
use mathlib.Core.List.{List, [], ◌∷◌, ◌++◌, map, map-append}
use mathlib.Core.Logic.{◌⊎◌, inl, inr}
use borrow.Author.Tests.{not-true, not-false}
use lib.ListN.{length, take, get_or}
use lib.Seq.{take-suc}
use Rattle.meaning.specs.Bytes.{Text, ◌or◌, any}
use Rattle.meaning.specs.Limits.{spec_count}
use Rattle.meaning.specs.Spec.{Spec, is_negative}
use Rattle.meaning.specs.Listing.{excludes}
use Rattle.compare.proofs.Sames.{or-false}
use Rattle.buffer.specs.Splice.{splice}
use Rattle.parse.specs.declared.types.RefSpec.{RefSpec}
use Rattle.parse.specs.Places.{mode_meant, SidesWithin, spec_meant}
use Rattle.negatives.specs.declared.Negative.{Negative}
use Rattle.negatives.specs.Negatives.{negative_numbers, NegativeWithin, negative_at, excluded_by, Negatives}
use Rattle.negatives.specs.Making.{negative_of, negative_four, added_to, PutNegative, Added}
use Rattle.negatives.proofs.Forms.{negative-within, negative-excludes, positive-excludes}
use Rattle.negatives.proofs.Arms.{within_more}
use Rattle.negatives.proofs.Tables.{excluded-kept}

-- ---- one spec

-- what a spec of a list looks for stands within as many bytes as the list at most has
pub negative-small : (s : Text) (r : RefSpec) (n : Negative) → n ≡ negative_of s r → SidesWithin (length s) r → (l : ℕ) → length s ≤ l → NegativeWithin l n
negative-small s r n e w l h = rw e (within_more (negative_of s r) (length s) l h (negative-within s r w))

module _ (s : Text) (r : RefSpec) (t : List ℕ) (k : ℕ) (b : Bool) (is : b ≡ is_negative (mode_meant r.mode)) where
  -- what stands in the table then
  pub none-counted : not b ≡ true → k ≡ cond (is_negative (mode_meant r.mode)) (k + 1) k
  none-counted n = let f : is_negative (mode_meant r.mode) ≡ false = sym is ∙ not-true b n in rw f

  pub none-put : not b ≡ true → t ≡ added_to s r t k
  unfolding added_to
  none-put n = let f : is_negative (mode_meant r.mode) ≡ false = sym is ∙ not-true b n in rw f

  pub one-counted : not b ≡ false → (count : ℕ) → count ≡ k + 1 → count ≡ cond (is_negative (mode_meant r.mode)) (k + 1) k
  one-counted n count e = let f : is_negative (mode_meant r.mode) ≡ true = sym is ∙ not-false b n in rw f e

  pub one-put : not b ≡ false → (n : Negative) → n ≡ negative_of s r → (u : List ℕ) → u ≡ splice t (negative_numbers * k) (negative_four n) → u ≡ added_to s r t k
  unfolding added_to
  one-put f n en u p = let g : is_negative (mode_meant r.mode) ≡ true = sym is ∙ not-false b f in rw (g, ← en) p

  -- one that is not negative adds nothing
  pub added_none : not b ≡ true → Added s (spec_meant s r) t k t k
  added_none n = record {
    size = refl;
    one = omega arith;
    within = λ w. w;
    decides = λ name. rw (positive-excludes s name r (sym is ∙ not-true b n)) (sym (or-false (excluded_by s t k name)));
  }

  -- a negative one is put after the others
  module _ (f : not b ≡ false) (w : SidesWithin (length s) r) (n : Negative) (en : n ≡ negative_of s r) (u : List ℕ) (p : PutNegative t k n u) where
    last_within : NegativeWithin (length s) (negative_at u k)
    last_within = rw (p.there, en) (negative-within s r w)

    all-within : ((j : ℕ) → j < k → NegativeWithin (length s) (negative_at t j)) → (j : ℕ) → j < k + 1 → NegativeWithin (length s) (negative_at u j)
    all-within old j l = go (eq-or-lt_of_le (let h : j ≤ k = omega arith in h))
      where
        go : (j ≡ k) ⊎ (j < k) → NegativeWithin (length s) (negative_at u j)
        go (inl e) = rw e last_within
        go (inr m) = rw (p.kept j m) (old j m)

    all-decide : (name : Text) → excluded_by s u (k + 1) name ≡ (excluded_by s t k name or excludes name (spec_meant s r))
    all-decide name = rw (add-one k, excluded-kept s t u k p.kept name, p.there, en, negative-excludes s name r (sym is ∙ not-false b f))

    pub added-one : (count : ℕ) → count ≡ k + 1 → Added s (spec_meant s r) t k u count
    added-one count e = rw e (record { size = p.size; one = omega arith; within = all-within; decides = all-decide })

-- ---- a group

any_append : {A : Type 0} (test : A → Bool) (l : List A) (x : A) → any test (l ++ (x ∷ [])) ≡ (any test l or test x)
any_append test [] x = or-false (test x)
any_append test (y ∷ l) x = go (test y) (any_append test l x)
  where
    go : (b : Bool) → any test (l ++ (x ∷ [])) ≡ (any test l or test x) → (b or any test (l ++ (x ∷ []))) ≡ ((b or any test l) or test x)
    go true e = refl
    go false e = e

-- no spec, no negative
pub negatives-none : (s : Text) (t : List ℕ) → Negatives s [] t 0
negatives-none s t = record { room = omega arith; within = λ k l. absurd (omega arith); decides = λ name. refl; few = omega arith }

-- a spec that is added joins the group
module _ (s : Text) (t : List ℕ) (k : ℕ) (u : List ℕ) (count : ℕ) (room : negative_numbers * k + negative_numbers ≤ length t) (few : k < spec_count) where
  pub negatives-more : (group : List Spec) (spec : Spec) → Negatives s group t k → Added s spec t k u count → Negatives s (group ++ (spec ∷ [])) u count
  negatives-more group spec n a = record {
    room = omega (arith, a.size, a.one);
    within = a.within n.within;
    decides = λ name. a.decides name ∙ ap (λ (b : Bool). b or excludes name spec) (n.decides name) ∙ sym (any_append (excludes name) group spec);
    few = omega (arith, a.one);
  }

  -- record number i of a table joins those before it
  pub negatives-next : {A : Type 0} (f : A → Spec) (table : List A) (i : ℕ) → i < length table → (d : A)
      → Negatives s (map f (take i table)) t k → Added s (f (get_or table i d)) t k u count → Negatives s (map f (take (i + 1) table)) u count
  negatives-next f table i h d n a =
      rw (add-one i, take-suc table i d h, map-append f (take i table) (get_or table i d ∷ []))
      (negatives-more (map f (take i table)) (f (get_or table i d)) n a)
