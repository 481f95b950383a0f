-- Bytes that fit, each before the next, stand. Assumes nothing.
use mathlib.Core.Path.{◌≡◌, refl, sym, ap, ◌∙◌}
use mathlib.Core.Bool.{Bool, true, false, not, ◌&&◌, ◌||◌, true≢false, false≢true}
use mathlib.Core.Logic.{◌⊎◌, inl, inr}
use mathlib.Core.List.{[], ◌∷◌}
use Prim.Native.Nat.{ℕ, zero, suc, ◌+◌, ◌-◌, ◌≤◌, ◌<◌}
use native.Mathlib.Numerals.{add-one}
use native.Mathlib.Omega.{arith}
use borrow.Author.Tests.{eqb-true, ne_eqb}
use lib.Dec.{eqb}
use lib.ListN.{length, get_or, take, drop, length-drop}
use lib.Seq.{get_or-drop}
use Rattle.meaning.specs.Bytes.{Text, ◌and◌}
use Rattle.meaning.specs.Names.{rule_four_byte, rule_five_byte, not_at}
use Rattle.promises.proofs.Laws.{and_left, and_right, and_both}
use Rattle.std.proofs.lemmas.Bool.Decides.{nat_tests}
use Rattle.text.proofs.Classes.{span}
use Rattle.text.proofs.Rests.{rest-cons, rest_end, rest_part}
use Rattle.text.proofs.Rows.{and-true, and-false}
use Rattle.name.specs.declared.NameKind.TheVariants.{Name, Pattern}
use Rattle.name.specs.Rules.{name_byte, plain, fits, fitting, after_slash, stands, standing, kind_of}
use Rattle.name.proofs.Standing.{anywhere, anywhere-stands, stands-star, kind-name, kind-pattern}

-- ---- a byte that fits stands

-- a plain byte stands whatever follows it, or is a slash
plain-test : ℕ → Bool
plain-test x = not (plain x) || (anywhere x || eqb x 47)

plain_low : (x : ℕ) → plain x ≡ true → x < 128
plain_low x e = grind (arith, nat_tests)

plain-cases : (x : ℕ) → plain x ≡ true → (true ≡ anywhere x) ⊎ (x ≡ 47)
unfolding plain-test name_byte rule_four_byte rule_five_byte
plain-cases x e = go (anywhere x) (eqb x 47) refl refl (rw e at (sym (span plain-test true [] 0 128 tt x (omega arith) (plain_low x e) (λ z. z))))
  where
    go : (a b : Bool) → anywhere x ≡ a → eqb x 47 ≡ b → (a || b) ≡ true → (true ≡ anywhere x) ⊎ (x ≡ 47)
    go true b d f t = inl (sym d)
    go false true d f t = inr (eqb-true x 47 f)
    go false false d f t = absurd (false≢true t)

both-left : (a b : Bool) → (a && b) ≡ true → a ≡ true
both-left true b e = refl
both-left false b e = absurd (false≢true e)

-- after a slash that fits stands neither a dot nor a slash
slash-fits : (y : ℕ) (s : Text) → fits 47 y ≡ true → stands 47 (y ∷ s) ≡ true
unfolding stands after_slash
slash-fits y s e = rw (ne_eqb 47 y (λ q. other 47 q refl), ne_eqb 46 y (λ q. other 46 q refl))
  where
    other : (k : ℕ) → k ≡ y → fits 47 k ≡ false → ⊥
    other k q f = true≢false (sym e ∙ rw (← q) f)

-- so a byte that fits before the next stands before it, where there is one
pub fits-stands : (x : ℕ) (s : Text) → 0 < length s → fits x (get_or s 0 0) ≡ true → stands x s ≡ true
fits-stands x [] h e = absurd (omega arith)
fits-stands x (y ∷ s) h e = go (plain-cases x (both-left (plain x) _ e))
  where
    go : (true ≡ anywhere x) ⊎ (x ≡ 47) → stands x (y ∷ s) ≡ true
    go (inl a) = sym (anywhere-stands x (y ∷ s) a)
    go (inr q) = rw q (slash-fits y s (rw q at e))

-- what fits before a slash stands before anything
fits_last : (x : ℕ) (s : Text) → fits x 47 ≡ true → stands x s ≡ true
fits_last x s e = go (plain-cases x (both-left (plain x) _ e))
  where
    go : (true ≡ anywhere x) ⊎ (x ≡ 47) → stands x s ≡ true
    go (inl a) = sym (anywhere-stands x s a)
    go (inr q) = absurd (let f : ◌≡◌ {A = Bool} false true = rw q at e in false≢true f)

-- ---- so do many, each before the next

pub fit-standing : (n : ℕ) (s : Text) → n < length s → fitting n s ≡ true → standing s ≡ n + standing (drop n s)
fit-standing zero s h e = omega arith
fit-standing (suc n) [] h e = absurd (omega arith)
fit-standing (suc n) (x ∷ s) h e =
    let r = fit-standing n s (omega arith) (and_right (fits x (get_or s 0 0)) (fitting n s) e) in
    rw (fits-stands x s (omega arith) (and_left (fits x (get_or s 0 0)) (fitting n s) e)) (omega arith)

and_assoc : (a b c : Bool) → (a and (b and c)) ≡ ((a and b) and c)
and_assoc true b c = refl
and_assoc false b c = refl

-- one more is asked after those before it
fit-one : (n : ℕ) (s : Text) → n < length s → fitting (suc n) s ≡ (fitting n s and fits (get_or s n 0) (get_or s (suc n) 0))
fit-one n [] h = absurd (omega arith)
fit-one zero (x ∷ s) h = and-true (fits x (get_or s 0 0))
fit-one (suc n) (x ∷ s) h = rw (fit-one n s (omega arith)) (and_assoc (fits x (get_or s 0 0)) (fitting n s) (fits (get_or s n 0) (get_or s (suc n) 0)))

pub fit-more : (s : Text) (n i k : ℕ) (all r : Bool) → i + n < length s → k < n → all ≡ fitting k (drop i s) → r ≡ fits (get_or s (i + k) 0) (get_or s (i + k + 1) 0)
    → (all && r) ≡ fitting (k + 1) (drop i s)
fit-more s n i k all r h l d e =
    let p : i + suc k ≡ i + k + 1 = omega arith in
    let a = fit-one k (drop i s) (rw length-drop (omega arith)) in
    rw add-one (sym (rw (get_or-drop i s k 0, get_or-drop i s (suc k) 0, p, ← d, ← e) at a))

fit-join : (a b : ℕ) (s : Text) → fitting a s ≡ true → fitting b (drop a s) ≡ true → fitting (a + b) s ≡ true
fit-join zero b s d e = let q : 0 + b ≡ b = omega arith in ap (λ (n : ℕ). fitting n s) q ∙ e
fit-join (suc a) b [] d e = absurd (false≢true d)
fit-join (suc a) b (x ∷ s) d e =
    let q : suc a + b ≡ suc (a + b) = omega arith in
    ap (λ (n : ℕ). fitting n (x ∷ s)) q
    ∙ and_both (and_left (fits x (get_or s 0 0)) (fitting a s) d) (fit-join a b s (and_right (fits x (get_or s 0 0)) (fitting a s) d) e)

fit-less : (a b : ℕ) (s : Text) → a ≤ b → fitting b s ≡ true → fitting a s ≡ true
fit-less zero b s h e = refl
fit-less (suc a) zero s h e = absurd (omega arith)
fit-less (suc a) (suc b) [] h e = absurd (false≢true e)
fit-less (suc a) (suc b) (x ∷ s) h e = and_both (and_left (fits x (get_or s 0 0)) (fitting b s) e) (fit-less a b s (omega arith) (and_right (fits x (get_or s 0 0)) (fitting b s) e))

-- n more fit
pub fit-many : (s : Text) (i n : ℕ) (r : Bool) → fitting i s ≡ true → r ≡ fitting n (drop i s) → r ≡ true → fitting (i + n) s ≡ true
fit-many s i n r d e f = fit-join i n s d (sym e ∙ f)

-- the last n fit, and all before them
pub fit-last : (n : ℕ) (s : Text) (m i : ℕ) (r : Bool) → n ≤ m → r ≡ fitting n (drop (m - n) s) → r ≡ true → fitting i s ≡ true → m - n ≤ i → fitting m s ≡ true
fit-last n s m i r h e f d l =
    let q : m - n + n ≡ m = omega arith in
    rw q at (fit-join (m - n) n s (fit-less (m - n) i s l d) (sym e ∙ f))

pub fit_none : (s : Text) (m : ℕ) → false ≡ true → fitting m s ≡ true
fit_none s m e = absurd (false≢true e)

-- ---- what a text of such bytes is, by its last

-- a dot is not plain, so a text of two bytes that fit, whose first is no slash, opens well
fit-opens : (s : Text) → 1 < length s → fitting 1 s ≡ true → (get_or s 0 0 ≡ 47 → ⊥) → true ≡ (after_slash s and not_at s)
unfolding after_slash not_at
fit-opens [] h e f = absurd (omega arith)
fit-opens (x ∷ []) h e f = absurd (omega arith)
fit-opens (x ∷ y ∷ s) h e f = rw (ne_eqb 47 x (λ q. f (sym q)), ne_eqb 46 x (λ q. true≢false (sym (and_left (fits x y) true e) ∙ rw (← q) refl)), and-false)

module _ (s : Text) (size : 8 < length s) (all-before : fitting (length s - 1) s ≡ true) (first : get_or s 0 0 ≡ 47 → ⊥) where
  reaches : standing s ≡ length s - 1 + standing (drop (length s - 1) s)
  reaches = fit-standing (length s - 1) s (omega arith) all-before

  last-is : drop (length s - 1) s ≡ get_or s (length s - 1) 0 ∷ drop (length s - 1 + 1) s
  last-is = rest-cons s (length s - 1) (omega arith)

  opened : true ≡ (after_slash s and not_at s)
  opened = fit-opens s (omega arith) (fit-less 1 (length s - 1) s (omega arith) all-before) first

  rest-none : take (length s - (length s - 1 + 1)) (drop (length s - 1 + 1) s) ≡ []
  rest-none = rest_part s (length s - 1 + 1) ∙ rest_end s (length s - 1 + 1) (omega arith)

  pub plain-pattern : get_or s (length s - 1) 0 ≡ 42 → Pattern ≡ kind_of s
  plain-pattern e =
      let stuck : standing (drop (length s - 1) s) ≡ 0 = rw (last-is, e, stands-star) in
      kind-pattern s true opened refl (length s - 1) (omega (arith, reaches)) (omega arith) (λ q. omega arith) e 0 (sym (ap standing rest-none)) (sym (ap length rest-none))

  pub plain-name : fits (get_or s (length s - 1) 0) 47 ≡ true → Name ≡ kind_of s
  plain-name q =
      let one : standing (drop (length s - 1) s) ≡ 1 = rw (last-is, fits_last (get_or s (length s - 1) 0) (drop (length s - 1 + 1) s) q, rest_end s (length s - 1 + 1) (omega arith)) in
      kind-name s true opened refl (length s) (omega (arith, reaches)) refl
