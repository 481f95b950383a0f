-- Laws of lists and texts. Assumes nothing.
use mathlib.Core.Path.{◌≡◌, refl, sym, ap, subst, ◌∙◌}
use mathlib.Core.Bool.{Bool, true, false, cond, true≢false, false≢true}
use mathlib.Core.List.{List, [], ◌∷◌, ◌++◌, map, append_assoc}
use mathlib.Core.Logic.{◌⊎◌, inl, inr}
use mathlib.Core.Option.{none, some}
use Prim.Native.Nat.{ℕ, suc, ◌+◌, ◌≤◌, ◌<◌}
use native.Mathlib.Omega.{arith}
use borrow.Author.Tests.{eq-eqb, eqb-true}
use lib.Dec.{eqb}
use lib.ListN.{length, length-append}
use Rattle.meaning.specs.Bytes.{Text, ◌and◌, ◌or◌, every, any, keep, each, numbered_from, same, insert, in_order, earlier}
use Rattle.meaning.specs.Bytes.{In, here, there}
use Rattle.meaning.specs.View.{nth}

-- both hold: the first does
pub and_left : (a b : Bool) → (a and b) ≡ true → a ≡ true
and_left true b e = refl
and_left false b e = e

-- both hold: the second does
pub and_right : (a b : Bool) → (a and b) ≡ true → b ≡ true
and_right true b e = e
and_right false b e = absurd (false≢true e)

-- each holds: both do
pub and_both : {a b : Bool} → a ≡ true → b ≡ true → (a and b) ≡ true
and_both p q = rw (p, q)

-- one of two holds: the first or the second
pub or_cases : (a b : Bool) → (a or b) ≡ true → (a ≡ true) ⊎ (b ≡ true)
or_cases true b e = inl refl
or_cases false b e = inr e

-- the second holds: one of the two does
pub or_right : (a b : Bool) → b ≡ true → (a or b) ≡ true
or_right true b e = refl
or_right false b e = e

-- neither of two holds: each does not
pub or-none : (a b : Bool) → (a or b) ≡ false → (a ≡ false) × (b ≡ false)
or-none true b e = absurd (true≢false e)
or-none false b e = (refl, e)

-- a test that chose
pub chosen : {A : Type 0} (b : Bool) (x y : A) → cond b (some x) none ≡ some y → (b ≡ true) × (x ≡ y)
chosen true x y e = (refl, cc)
chosen false x y e = absurd (let z : ◌≡◌ {A = ℕ} 0 1 = cc in omega arith)

-- membership

-- nothing is in an empty list
pub in-none : {A : Type 0} {x : A} → In x [] → ⊥
in-none h = elim h [ ]

-- a member of the first list is one of both
pub in_left : {A : Type 0} {x : A} {l : List A} (m : List A) → In x l → In x (l ++ m)
in_left m here = here
in_left m (there h) = there (in_left m h)

-- a member of the second list is one of both
pub in_right : {A : Type 0} {x : A} (l : List A) {m : List A} → In x m → In x (l ++ m)
in_right [] h = h
in_right (y ∷ l) h = there (in_right l h)

in-append-there : {A : Type 0} {x y : A} {l m : List A} → In x l ⊎ In x m → In x (y ∷ l) ⊎ In x m
in-append-there (inl g) = inl (there g)
in-append-there (inr g) = inr g

-- a member of both lists is one of the first or of the second
pub in-append : {A : Type 0} {x : A} (l : List A) {m : List A} → In x (l ++ m) → In x l ⊎ In x m
in-append [] h = inr h
in-append (y ∷ l) here = inl here
in-append (y ∷ l) (there h) = in-append-there (in-append l h)

module _ {A : Type 0} where
  -- a member that passes is kept
  pub in-keep : (test : A → Bool) {x : A} {l : List A} → In x l → test x ≡ true → In x (keep test l)
  in-keep test here e = rw e here
  in-keep test {x} (there {s = y} {l = l} h) e = go (test y) (in-keep test h e)
    where
      go : (b : Bool) → In x (keep test l) → In x (cond b (y ∷ keep test l) (keep test l))
      go true g = there g
      go false g = g

  keep-there : (test : A → Bool) {x y : A} {l : List A} → In x l × (test x ≡ true) → In x (y ∷ l) × (test x ≡ true)
  keep-there test h = (there h.0, h.1)

  keep-head : (test : A → Bool) {x y : A} {l k : List A} → test y ≡ true → (In x k → In x l × (test x ≡ true)) → In x (y ∷ k) → In x (y ∷ l) × (test x ≡ true)
  keep-head test e f here = (here, e)
  keep-head test e f (there h) = keep-there test (f h)

  -- a kept member is a member and passes
  pub keep-in : (test : A → Bool) {x : A} (l : List A) → In x (keep test l) → In x l × (test x ≡ true)
  keep-in test [] h = elim h [ ]
  keep-in test {x} (y ∷ l) h = go (keep-in test l) (test y) refl h
    where
      go : (In x (keep test l) → In x l × (test x ≡ true)) → (b : Bool) → test y ≡ b → In x (cond b (y ∷ keep test l) (keep test l)) → In x (y ∷ l) × (test x ≡ true)
      go f true e g = keep-head test e f g
      go f false e g = keep-there test (f g)

  -- a member that passes: some member passes
  pub in-any : (test : A → Bool) {x : A} {l : List A} → In x l → test x ≡ true → any test l ≡ true
  in-any test here e = rw e
  in-any test (there {s = y} h) e = rw (in-any test h e) (or_right (test y) true refl)

  -- some member passes: here is one
  pub any-in : (test : A → Bool) (l : List A) → any test l ≡ true → (x : A) × In x l × (test x ≡ true)
  any-in test [] e = absurd (false≢true e)
  any-in test (y ∷ l) e = go (any-in test l) (or_cases (test y) (any test l) e)
    where
      go : (any test l ≡ true → (x : A) × In x l × (test x ≡ true)) → (test y ≡ true) ⊎ (any test l ≡ true) → (x : A) × In x (y ∷ l) × (test x ≡ true)
      go f (inl p) = (y, here, p)
      go f (inr p) = let r = f p in (r.0, there r.1, r.2)

  -- every member passes: so does this one
  pub every_in : (test : A → Bool) {x : A} {l : List A} → every test l ≡ true → In x l → test x ≡ true
  every_in test e (here {l = l}) = and_left _ (every test l) e
  every_in test e (there {s = y} {l = l} h) = every_in test (and_right (test y) (every test l) e) h

  -- the members of two lists pass: so do those of both
  pub every_append : (test : A → Bool) (l m : List A) → every test l ≡ true → every test m ≡ true → every test (l ++ m) ≡ true
  every_append test [] m p q = q
  every_append test (x ∷ l) m p q = and_both (and_left (test x) (every test l) p) (every_append test l m (and_right (test x) (every test l) p) q)

  -- those of both pass: so do those of the first
  pub every-left : (test : A → Bool) (l m : List A) → every test (l ++ m) ≡ true → every test l ≡ true
  every-left test [] m p = refl
  every-left test (x ∷ l) m p = and_both (and_left (test x) (every test (l ++ m)) p) (every-left test l m (and_right (test x) (every test (l ++ m)) p))

  -- and those of the second
  pub every-right : (test : A → Bool) (l m : List A) → every test (l ++ m) ≡ true → every test m ≡ true
  every-right test [] m p = p
  every-right test (x ∷ l) m p = every-right test l m (and_right (test x) (every test (l ++ m)) p)

  -- what a member gives is among what all give
  pub in-each : {B : Type 0} (f : A → List B) {x : A} {l : List A} {y : B} → In x l → In y (f x) → In y (each l f)
  in-each f (here {l = l}) g = in_left (each l f) g
  in-each f (there {s = z} h) g = in_right (f z) (in-each f h g)

  -- what all give comes from a member
  pub each_in : {B : Type 0} (f : A → List B) (l : List A) {y : B} → In y (each l f) → (x : A) × In x l × In y (f x)
  each_in f [] h = elim h [ ]
  each_in f (x ∷ l) {y} h = go (each_in f l) (in-append (f x) h)
    where
      go : (In y (each l f) → (z : A) × In z l × In y (f z)) → In y (f x) ⊎ In y (each l f) → (z : A) × In z (x ∷ l) × In y (f z)
      go k (inl g) = (x, here, g)
      go k (inr g) = let r = k g in (r.0, there r.1, r.2)

  -- a member's image is an image
  pub in_map : {B : Type 0} (f : A → B) {x : A} {l : List A} → In x l → In (f x) (map f l)
  in_map f here = here
  in_map f (there h) = there (in_map f h)

  map-head : {B : Type 0} (f : A → B) {z : A} {l : List A} {k : List B} {y : B} → (In y k → (x : A) × In x l × (y ≡ f x)) → In y (f z ∷ k) → (x : A) × In x (z ∷ l) × (y ≡ f x)
  map-head f {z} g here = (z, here, refl)
  map-head f g (there h) = let r = g h in (r.0, there r.1, r.2)

  -- an image comes from a member
  pub map-in : {B : Type 0} (f : A → B) (l : List A) {y : B} → In y (map f l) → (x : A) × In x l × (y ≡ f x)
  map-in f [] h = elim h [ ]
  map-in f (x ∷ l) h = map-head f (map-in f l) h

  -- what is equal to a member is one
  pub in-cast : {x y : A} {l : List A} → x ≡ y → In y l → In x l
  in-cast {l = l} e h = subst (λ (z : A). In z l) (sym e) h

-- a member is the first or one of the rest
pub in-cons : {A : Type 0} {d x : A} {l : List A} → In d (x ∷ l) → (d ≡ x) ⊎ In d l
in-cons here = inl refl
in-cons (there h) = inr h

-- texts

-- a text is the same as itself
pub same_refl : (s : Text) → same s s ≡ true
same_refl [] = refl
same_refl (x ∷ s) = and_both (eq-eqb x x refl) (same_refl s)

-- texts that are the same are equal
pub same-is : (s t : Text) → same s t ≡ true → s ≡ t
same-is [] [] e = refl
same-is [] (y ∷ t) e = absurd (false≢true e)
same-is (x ∷ s) [] e = absurd (false≢true e)
same-is (x ∷ s) (y ∷ t) e =
    let p : x ≡ y = eqb-true x y (and_left (eqb x y) (same s t) e) in
    let q : s ≡ t = same-is s t (and_right (eqb x y) (same s t) e) in
    cc

-- equal texts are the same
pub same-eq : {s t : Text} → s ≡ t → same s t ≡ true
same-eq {s} {t} e = rw e (same_refl t)

-- a text of length 0 has no byte
pub no_bytes : (t : Text) → length t ≡ 0 → t ≡ []
no_bytes [] h = refl
no_bytes (x ∷ t) h = absurd (omega arith)

-- what was put in its place is there
pub insert-new : (s : Text) (l : List Text) → In s (insert s l)
insert-new s [] = here
insert-new s (t ∷ l) = go (insert-new s l) (same s t) (earlier s t) refl
  where
    go : In s (insert s l) → (b c : Bool) → same s t ≡ b → In s (cond b (t ∷ l) (cond c (s ∷ t ∷ l) (t ∷ insert s l)))
    go h true c e = in-cast (same-is s t e) here
    go h false true e = here
    go h false false e = there h

-- what was there stays there
pub insert-old : (s : Text) {d : Text} {l : List Text} → In d l → In d (insert s l)
insert-old s {d} (here {l = l}) = go (same s d) (earlier s d)
  where
    go : (b c : Bool) → In d (cond b (d ∷ l) (cond c (s ∷ d ∷ l) (d ∷ insert s l)))
    go true c = here
    go false true = there here
    go false false = here
insert-old s {d} (there {s = t} {l = l} h) = go (same s t) (earlier s t) (insert-old s h)
  where
    go : (b c : Bool) → In d (insert s l) → In d (cond b (t ∷ l) (cond c (s ∷ t ∷ l) (t ∷ insert s l)))
    go true c g = there h
    go false true g = there (there h)
    go false false g = there g

-- what is listed stands in order
pub in_order_lem : {d : Text} {l : List Text} → In d l → In d (in_order l)
in_order_lem (here {l = l}) = insert-new _ (in_order l)
in_order_lem (there {s = s} h) = insert-old s (in_order_lem h)

-- a numbered member: its number, and the member
pub numbered-in : {A : Type 0} (i : ℕ) (l : List A) {n : ℕ × A} → In n (numbered_from i l) → (n.0 < i + length l) × In n.1 l
numbered-in i [] h = elim h [ ]
numbered-in i (x ∷ l) here = (omega arith, here)
numbered-in i (x ∷ l) (there h) = let r = numbered-in (suc i) l h in (omega arith, there r.1)

-- it stands in the list at its number, counted from where the numbers begin
pub numbered-nth : {A : Type 0} (i : ℕ) (l : List A) {n : ℕ × A} → In n (numbered_from i l) → (j : ℕ) × (n.0 ≡ i + j) × (nth l j ≡ some n.1)
numbered-nth i [] h = elim h [ ]
numbered-nth i (x ∷ l) here = (0, omega arith, refl)
numbered-nth i (x ∷ l) (there h) = let r = numbered-nth (suc i) l h in let k = r.1 in (suc r.0, omega arith, r.2)

-- counted from 0, its number is its place
pub numbered-place : {A : Type 0} (l : List A) {n : ℕ × A} → In n (numbered_from 0 l) → nth l n.0 ≡ some n.1
numbered-place l h = let r = numbered-nth 0 l h in let k = r.1 in ap (nth l) (omega arith) ∙ r.2

-- a member has a number
pub in-numbered : {A : Type 0} {x : A} {l : List A} (i : ℕ) → In x l → (j : ℕ) × In {A = ℕ × A} (j, x) (numbered_from i l)
in-numbered i here = (i, here)
in-numbered i (there h) = let r = in-numbered (suc i) h in (r.0, there r.1)

-- what is had of two lists after another is had of each
pub each_append : {A B : Type 0} (l m : List A) (f : A → List B) → each (l ++ m) f ≡ each l f ++ each m f
each_append [] m f = refl
each_append (x ∷ l) m f = rw (each_append l m f, append_assoc (f x) (each l f) (each m f))

-- a member's text is no longer than all texts
pub each_long : {A : Type 0} (w : A → Text) {x : A} {l : List A} → In x l → length (w x) ≤ length (each l w)
each_long w {x} (here {l = l}) = omega (arith, length-append (w x) (each l w))
each_long w (there {s = y} {l = l} h) = omega (arith, each_long w h, length-append (w y) (each l w))

-- to map each member to itself changes nothing
pub map_same : {A : Type 0} (l : List A) → map (λ (x : A). x) l ≡ l
map_same [] = refl
map_same (x ∷ l) = ap (λ (k : List _). x ∷ k) (map_same l)
