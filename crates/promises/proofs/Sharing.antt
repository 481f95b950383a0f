-- What two targets share. Assumes nothing.
use mathlib.Core.Path.{◌≡◌, refl, sym, ap, ◌∙◌}
use mathlib.Core.Logic.{◌⊎◌, inl, inr}
use mathlib.Core.Bool.{Bool, true, false, cond, true≢false, false≢true}
use mathlib.Core.List.{[], ◌++◌, append-nil, append_assoc}
use mathlib.Core.Option.{Option, none, some}
use Prim.Native.Nat.{ℕ, ◌-◌, ◌≤◌}
use native.Mathlib.Omega.{arith}
use borrow.Author.Tests.{le-leb, leb-true}
use lib.Dec.{leb}
use lib.ListN.{length, take, drop}
use Rattle.meaning.specs.Bytes.{Text, ◌and◌, ◌or◌, same, begins, ends, present}
use Rattle.meaning.specs.Match.{Form, literal, pattern, capture}
use Rattle.meaning.specs.Collide.{longer_start, longer_end, followed_by, literal_in, shared}
use Rattle.promises.specs.Collisions.{longer, starts_and_ends}
use Rattle.promises.proofs.Laws.{chosen, same-is, same-eq}
use Rattle.promises.proofs.Captures.{begins-is, ends_is, starts-compare, ends-compare, begins-shorter, ends-shorter, start-whole, end_whole, capture-is, capture-fill}

-- a target is filled by d
abbrev pub Fills : Form → Text → Type 0
Fills (literal t) d = d ≡ t
Fills (pattern a b) d = (c : Text) × (d ≡ a ++ (c ++ b))

-- the longer of two, chosen by two tests: b where the first test passes, else a where the second does

module _ (a b : Text) where
  abbrev one_of : Bool → Bool → Option Text
  one_of p q = cond p (some b) (cond q (some a) none)

  -- it is one of the two
  one-of-is : (p q : Bool) (l : Text) → one_of p q ≡ some l → ((p ≡ true) × (b ≡ l)) ⊎ ((q ≡ true) × (a ≡ l))
  one-of-is true q l e = inl (refl, cc)
  one-of-is false true l e = inr (refl, cc)
  one-of-is false false l e = absurd (let z : ◌≡◌ {A = ℕ} 0 1 = cc in omega arith)

  -- there is none: neither test passes
  one-of-none : (p q : Bool) → one_of p q ≡ none → (p ≡ true) ⊎ (q ≡ true) → ⊥
  one-of-none true q e o = let z : ◌≡◌ {A = ℕ} 0 1 = cc in omega arith
  one-of-none false true e o = let z : ◌≡◌ {A = ℕ} 0 1 = cc in omega arith
  one-of-none false false e (inl p) = false≢true p
  one-of-none false false e (inr p) = false≢true p

  -- where the second is the longer
  longer-second : length a ≤ length b → longer a b ≡ b
  longer-second h = rw (le-leb (length a) (length b) h)

  -- where the first is, if they are one at the same length
  longer-first : (length a ≤ length b → a ≡ b) → longer a b ≡ a
  longer-first f = go (leb (length a) (length b)) refl
    where
      go : (c : Bool) → leb (length a) (length b) ≡ c → cond c b a ≡ a
      go true e = sym (f (leb-true (length a) (length b) e))
      go false e = refl

  -- it is the longer of the two, if each test says so
  one-of-longer : (p q : Bool) → (p ≡ true → length a ≤ length b) → (q ≡ true → length a ≤ length b → a ≡ b) → one_of p q ≡ cond (p or q) (some (longer a b)) none
  one-of-longer true q f g = rw (longer-second (f refl))
  one-of-longer false true f g = rw (longer-first (g refl))
  one-of-longer false false f g = refl

  -- the order of the tests does not matter, if the two are one where both pass
  one-of-either : (p q : Bool) → (p ≡ true → q ≡ true → a ≡ b) → one_of p q ≡ cond q (some a) (cond p (some b) none)
  one-of-either true true f = ap {B = Option Text} some (sym (f refl refl))
  one-of-either true false f = refl
  one-of-either false true f = refl
  one-of-either false false f = refl

-- the longer start is one that either start begins
start_is : (a b l : Text) → longer_start a b ≡ some l → (x : Text) × (y : Text) × (l ≡ a ++ x) × (l ≡ b ++ y)
unfolding longer_start
start_is a b l e = go (one-of-is a b (begins a b) (begins b a) l e)
  where
    go : ((begins a b ≡ true) × (b ≡ l)) ⊎ ((begins b a ≡ true) × (a ≡ l)) → (x : Text) × (y : Text) × (l ≡ a ++ x) × (l ≡ b ++ y)
    go (inl h) = (drop (length a) b, [], sym h.1 ∙ begins-is a b h.0, sym h.1 ∙ sym (append-nil b))
    go (inr h) = ([], drop (length b) a, sym h.1 ∙ sym (append-nil a), sym h.1 ∙ begins-is b a h.0)

-- the longer end is one that either end closes
end_is : (a b l : Text) → longer_end a b ≡ some l → (x : Text) × (y : Text) × (l ≡ x ++ a) × (l ≡ y ++ b)
unfolding longer_end
end_is a b l e = go (one-of-is a b (ends a b) (ends b a) l e)
  where
    go : ((ends a b ≡ true) × (b ≡ l)) ⊎ ((ends b a ≡ true) × (a ≡ l)) → (x : Text) × (y : Text) × (l ≡ x ++ a) × (l ≡ y ++ b)
    go (inl h) = (take (length b - length a) b, [], sym h.1 ∙ ends_is a b h.0, sym h.1)
    go (inr h) = ([], take (length a - length b) a, sym h.1, sym h.1 ∙ ends_is b a h.0)

-- two patterns

-- a start with x after it, then an end with y before it
filled : (a x y b l m : Text) → l ≡ a ++ x → m ≡ y ++ b → l ++ m ≡ a ++ ((x ++ y) ++ b)
filled a x y b l m p q = rw (p, q) (simp append_assoc)

followed-is : (o n : Option Text) (d : Text) → followed_by o n ≡ some d → (l : Text) × (m : Text) × (o ≡ some l) × (n ≡ some m) × (d ≡ l ++ m)
followed-is none n d e = absurd (let z : ◌≡◌ {A = ℕ} 0 1 = cc in omega arith)
followed-is (some l) none d e = absurd (let z : ◌≡◌ {A = ℕ} 0 1 = cc in omega arith)
followed-is (some l) (some m) d e = (l, m, refl, refl, cc)

patterns-yes : (a b a' b' d : Text) → followed_by (longer_start a a') (longer_end b b') ≡ some d → Fills (pattern a b) d × Fills (pattern a' b') d
patterns-yes a b a' b' d e =
    let f = followed-is (longer_start a a') (longer_end b b') d e in
    let s = start_is a a' f.0 f.2 in
    let n = end_is b b' f.1 f.3 in (
      (s.0 ++ n.0, f.4 ∙ filled a s.0 n.0 b f.0 f.1 s.2 n.2),
      (s.1 ++ n.1, f.4 ∙ filled a' s.1 n.1 b' f.0 f.1 s.3 n.3),
    )

followed-none : (o n : Option Text) → followed_by o n ≡ none → (o ≡ none) ⊎ (n ≡ none)
followed-none none n e = inl refl
followed-none (some l) none e = inr refl
followed-none (some l) (some m) e = absurd (let z : ◌≡◌ {A = ℕ} 0 1 = cc in omega arith)

patterns-no : (a b a' b' d : Text) → followed_by (longer_start a a') (longer_end b b') ≡ none → Fills (pattern a b) d → Fills (pattern a' b') d → ⊥
unfolding longer_start longer_end
patterns-no a b a' b' d e f g = go (followed-none (longer_start a a') (longer_end b b') e)
  where
    both : a ++ (f.0 ++ b) ≡ a' ++ (g.0 ++ b')
    both = sym f.1 ∙ g.1

    go : (longer_start a a' ≡ none) ⊎ (longer_end b b' ≡ none) → ⊥
    go (inl p) = one-of-none a a' (begins a a') (begins a' a) p (starts-compare a a' (f.0 ++ b) (g.0 ++ b') both)
    go (inr p) = one-of-none b b' (ends b b') (ends b' b) p (ends-compare (a ++ f.0) (a' ++ g.0) b b' (simp append_assoc both))

-- a literal and a pattern

literal-yes : (a b t d : Text) → literal_in a b t ≡ some d → (d ≡ t) × Fills (pattern a b) d
unfolding literal_in
literal-yes a b t d e = go (capture a b t) refl e
  where
    go : (o : Option Text) → capture a b t ≡ o → cond (present o) (some t) none ≡ some d → (d ≡ t) × Fills (pattern a b) d
    go none q w = absurd (let z : ◌≡◌ {A = ℕ} 0 1 = cc in omega arith)
    go (some c) q w = let u : d ≡ t = cc in (u, (c, u ∙ capture-is a b t c q))

literal-no : (a b t d : Text) → literal_in a b t ≡ none → d ≡ t → Fills (pattern a b) d → ⊥
unfolding literal_in
literal-no a b t d e p f =
    let u : capture a b t ≡ some f.0 = rw (sym p ∙ f.1) (capture-fill a b f.0) in
    let w = rw u at e in
    let z : ◌≡◌ {A = ℕ} 0 1 = cc in omega arith

-- two literals

same-yes : (t u d : Text) → cond (same t u) (some t) none ≡ some d → (d ≡ t) × (d ≡ u)
same-yes t u d e = let k = chosen (same t u) t d e in (sym k.1, sym k.1 ∙ same-is t u k.0)

same-no : (t u d : Text) → cond (same t u) (some t) none ≡ none → d ≡ t → d ≡ u → ⊥
same-no t u d e p q = let w = rw (same-eq (sym p ∙ q)) at e in let z : ◌≡◌ {A = ℕ} 0 1 = cc in omega arith

-- what is shared fills both
pub shared-yes : (f g : Form) (d : Text) → shared f g ≡ some d → Fills f d × Fills g d
shared-yes (literal t) (literal u) d e = same-yes t u d e
shared-yes (literal t) (pattern a b) d e = literal-yes a b t d e
shared-yes (pattern a b) (literal t) d e = let p = literal-yes a b t d e in (p.1, p.0)
shared-yes (pattern a b) (pattern a' b') d e = patterns-yes a b a' b' d e

-- where nothing is shared, nothing fills both
pub shared-no : (f g : Form) (d : Text) → shared f g ≡ none → Fills f d → Fills g d → ⊥
shared-no (literal t) (literal u) d e p q = same-no t u d e p q
shared-no (literal t) (pattern a b) d e p q = literal-no a b t d e p q
shared-no (pattern a b) (literal t) d e p q = literal-no a b t d e q p
shared-no (pattern a b) (pattern a' b') d e p q = patterns-no a b a' b' d e p q

-- two patterns share the longer start followed by the longer end, if one start begins the other and one end closes the other

start-longer : (a b : Text) → longer_start a b ≡ cond (begins a b or begins b a) (some (longer a b)) none
unfolding longer_start
start-longer a b = one-of-longer a b (begins a b) (begins b a) (begins-shorter a b) (start-whole a b)

end-longer : (a b : Text) → longer_end a b ≡ cond (ends a b or ends b a) (some (longer a b)) none
unfolding longer_end
end-longer a b = one-of-longer a b (ends a b) (ends b a) (ends-shorter a b) (end_whole a b)

pub patterns-shared : (a b a' b' : Text) → shared (pattern a b) (pattern a' b') ≡ cond (starts_and_ends a b a' b') (some (longer a a' ++ longer b b')) none
patterns-shared a b a' b' = rw (start-longer a a', end-longer b b') (go (begins a a' or begins a' a) (ends b b' or ends b' b))
  where
    go : (p q : Bool) → followed_by (cond p (some (longer a a')) none) (cond q (some (longer b b')) none) ≡ cond (p and q) (some (longer a a' ++ longer b b')) none
    go true true = refl
    go true false = refl
    go false q = refl

-- either order

start-either : (a b : Text) → longer_start a b ≡ longer_start b a
unfolding longer_start
start-either a b = one-of-either a b (begins a b) (begins b a) (λ h k. start-whole a b k (begins-shorter a b h))

end-either : (a b : Text) → longer_end a b ≡ longer_end b a
unfolding longer_end
end-either a b = one-of-either a b (ends a b) (ends b a) (λ h k. end_whole a b k (ends-shorter a b h))

same-either : (t u : Text) → cond (same t u) (some t) none ≡ cond (same u t) (some u) none
same-either t u = go (same t u) (same u t) refl refl
  where
    go : (p q : Bool) → same t u ≡ p → same u t ≡ q → cond p (some t) none ≡ cond q (some u) none
    go true true h k = ap {B = Option Text} some (same-is t u h)
    go true false h k = absurd (true≢false (sym (same-eq (sym (same-is t u h))) ∙ k))
    go false true h k = absurd (true≢false (sym (same-eq (sym (same-is u t k))) ∙ h))
    go false false h k = refl

pub shared-either : (f g : Form) → shared f g ≡ shared g f
shared-either (literal t) (literal u) = same-either t u
shared-either (literal t) (pattern a b) = refl
shared-either (pattern a b) (literal t) = refl
shared-either (pattern a b) (pattern a' b') = rw (start-either a a', end-either b b')
