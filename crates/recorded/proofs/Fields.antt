-- Fields that stand one after the other. Assumes nothing.
use Prim.Native.Nat.{ℕ, suc, ◌+◌, ◌-◌, ◌/◌, ◌%◌, ◌≤◌, ◌<◌}
use native.Mathlib.Omega.{arith}
use mathlib.Core.Path.{◌≡◌, refl, sym, ap, ◌∙◌}
use mathlib.Core.Bool.{Bool, true, false, cond}
use mathlib.Core.List.{[], ◌∷◌, ◌++◌, append-nil}
use borrow.Author.Tests.{eqb-true, eq-eqb, ne_eqb}
use lib.Dec.{eqb}
use lib.ListN.{length, get_or, take, drop, length-append, length-drop}
use lib.Seq.{drop-drop, drop_at, take_at, get_or-drop}
use Rattle.meaning.specs.Bytes.{Text, ◌and◌, same, begins}
use Rattle.text.proofs.Rests.{rest-cons, rest_part}
use Rattle.number.specs.Reading.{Octets}
use Rattle.std.specs.Prelude.{Option, Some, None}
use Rattle.std.specs.Option.{option_eq}
use Rattle.recorded.specs.Record.{sized, sized_room}
use Rattle.recorded.specs.Field.{field_at, LengthTold, Stands}

-- what follows the same text is the same
pub append_left : (a b c : Text) → a ++ b ≡ a ++ c → b ≡ c
append_left a b c e = sym (drop_at a b (length a) refl) ∙ ap (drop (length a)) e ∙ drop_at a c (length a) refl

-- ---- what a text begins with

-- a text that begins with p is p and the rest
pub record Front (p s : Text) : Type 0 where
  pub is : s ≡ p ++ drop (length p) s
  pub few : length p ≤ length s

pub front : (p s : Text) → begins p s ≡ true → Front p s
front [] s e = record { is = refl; few = omega arith }
front (a ∷ p) [] e = absurd (let z : ◌≡◌ {A = ℕ} 0 1 = cc in omega arith)
front (a ∷ p) (x ∷ s) e = go (eqb a x) refl e (front p s)
  where
    go : (b : Bool) → eqb a x ≡ b → (b and begins p s) ≡ true → (begins p s ≡ true → Front p s) → Front (a ∷ p) (x ∷ s)
    go true q h rest =
        let f = rest h in
        let y : x ≡ a = sym (eqb-true a x q) in
        record { is = rw y (ap (λ (l : Text). a ∷ l) f.is); few = omega (arith, f.few) }
    go false q h rest = absurd (let z : ◌≡◌ {A = ℕ} 0 1 = cc in omega arith)

-- it begins with one text, and what is left with another
begins-both : (a b s : Text) → begins (a ++ b) s ≡ (begins a s and begins b (drop (length a) s))
begins-both [] b s = refl
begins-both (x ∷ a) b [] = refl
begins-both (x ∷ a) b (y ∷ s) = go (eqb x y) (begins-both a b s)
  where
    go : (t : Bool) → begins (a ++ b) s ≡ (begins a s and begins b (drop (length a) s)) → (t and begins (a ++ b) s) ≡ ((t and begins a s) and begins b (drop (length a) s))
    go true r = r
    go false r = refl

-- it is both
same-both : (a b s : Text) → same (a ++ b) s ≡ (begins a s and same b (drop (length a) s))
same-both [] b s = refl
same-both (x ∷ a) b [] = refl
same-both (x ∷ a) b (y ∷ s) = go (eqb x y) (same-both a b s)
  where
    go : (t : Bool) → same (a ++ b) s ≡ (begins a s and same b (drop (length a) s)) → (t and same (a ++ b) s) ≡ ((t and begins a s) and same b (drop (length a) s))
    go true r = r
    go false r = refl

-- p and anything after it begins with p
pub begins-own : (p rest : Text) → begins p (p ++ rest) ≡ true
begins-own [] rest = refl
begins-own (x ∷ p) rest = rw (eq-eqb x x refl) (begins-own p rest)

-- what is refuted is false
pub never : (b : Bool) → (b ≡ true → ⊥) → b ≡ false
never true h = absurd (h refl)
never false h = refl

-- ---- one field

module _ (s : Text) (at : ℕ) (want : Text) where
  -- the two answers
  pub field-yes : (b : Bool) → b ≡ begins want (take (length s - at) (drop at s)) → b ≡ true → Some (at + length want) ≡ field_at s at want
  unfolding field_at
  field-yes b e t = let q : begins want (drop at s) ≡ true = sym (rw (rest_part s at) at e) ∙ t in rw q

  pub field-no : (b : Bool) → b ≡ begins want (take (length s - at) (drop at s)) → b ≡ false → None ≡ field_at s at want
  unfolding field_at
  field-no b e t = let q : begins want (drop at s) ≡ false = sym (rw (rest_part s at) at e) ∙ t in rw q

  pub field-missed : begins want (drop at s) ≡ false → None ≡ field_at s at want
  unfolding field_at
  field-missed e = rw e

  -- what is refuted is not found
  pub field-never : ((rest : Text) → drop at s ≡ want ++ rest → ⊥) → begins want (drop at s) ≡ false
  field-never h = never (begins want (drop at s)) (λ e. h (drop (length want) (drop at s)) (front want (drop at s) e).is)

  -- a field that is found, and one that is not
  record Met (n : ℕ) : Type 0 where
    here : begins want (drop at s) ≡ true
    ends : n ≡ at + length want

  met : (n : ℕ) → Some n ≡ field_at s at want → Met n
  unfolding field_at
  met n = go (begins want (drop at s)) refl
    where
      go : (b : Bool) → begins want (drop at s) ≡ b → Some n ≡ cond b (Some (at + length want)) None → Met n
      go true e q = record { here = e; ends = cc }
      go false e q = absurd (let z : ◌≡◌ {A = ℕ} 0 1 = cc in omega arith)

  pub missed : None ≡ field_at s at want → begins want (drop at s) ≡ false
  unfolding field_at
  missed = go (begins want (drop at s)) refl
    where
      go : (b : Bool) → begins want (drop at s) ≡ b → None ≡ cond b (Some (at + length want)) None → begins want (drop at s) ≡ false
      go true e q = absurd (let z : ◌≡◌ {A = ℕ} 0 1 = cc in omega arith)
      go false e q = e

  module _ (h : at ≤ length s) where
    -- what is found stands there
    pub field-stands : (r : Option ℕ) (n : ℕ) → r ≡ field_at s at want → r ≡ Some n → Stands s at want n
    field-stands r n e q =
        let m = met n (sym q ∙ e) in
        let f = front want (drop at s) m.here in
        rw m.ends (record { is = f.is ∙ ap (λ (l : Text). want ++ l) (drop-drop (length want) at s); within = omega (arith, f.few, length-drop at s) })

    pub field-within : (r : Option ℕ) (n : ℕ) → r ≡ field_at s at want → r ≡ Some n → n ≤ length s
    field-within r n e q = (field-stands r n e q).within

    -- what stands there is found
    pub stands-field : (n : ℕ) → Stands s at want n → Some n ≡ field_at s at want
    unfolding field_at
    stands-field n t =
        let b : begins want (drop at s) ≡ true = rw t.is (begins-own want (drop n s)) in
        let l : n ≡ at + length want = omega (arith, ap length t.is, length-append want (drop n s), length-drop at s, length-drop n s, t.within) in
        rw (b, ← l)

-- ---- one field after another
module _ (s : Text) (at : ℕ) (a : Text) (r : Option ℕ) (e : r ≡ field_at s at a) where
  module _ (n : ℕ) (q : r ≡ Some n) where
    there : Met s at a n
    there = met s at a n (sym q ∙ e)

    left : drop (length a) (drop at s) ≡ drop n s
    left = drop-drop (length a) at s ∙ ap (λ (k : ℕ). drop k s) (sym there.ends)

    pub field_both : (b : Text) (r₂ : Option ℕ) → r₂ ≡ field_at s n b → r₂ ≡ field_at s at (a ++ b)
    unfolding field_at
    field_both b r₂ f =
        let l : n + length b ≡ at + length (a ++ b) = omega (arith, there.ends, length-append a b) in
        f ∙ rw (begins-both a b (drop at s), there.here, left, l)

    -- it and what is left are the rest of the record
    pub field-then : (b : Bool) (rest : Text) → b ≡ same rest (drop n s) → b ≡ same (a ++ rest) (drop at s)
    field-then b rest f = f ∙ rw (same-both a rest (drop at s), there.here, left)

    -- it is the rest where it ends with the record
    pub field-last : at ≤ length s → eqb n (length s) ≡ same a (drop at s)
    field-last h = rw (← append-nil a, same-both a [] (drop at s), there.here, left) (ends (drop n s) refl)
      where
        ends : (l : Text) → drop n s ≡ l → eqb n (length s) ≡ same [] l
        ends [] z = eq-eqb n (length s) (omega (arith, ap length z, length-drop n s, field-within s at a h r n e q))
        ends (x ∷ l) z = ne_eqb n (length s) (λ k. omega (arith, ap length z, length-drop n s))

  module _ (q : r ≡ None) where
    pub field-first : (b : Text) → None ≡ field_at s at (a ++ b)
    unfolding field_at
    field-first b = rw (begins-both a b (drop at s), missed s at a (sym q ∙ e))

    pub field-unlike : (rest : Text) → false ≡ same (a ++ rest) (drop at s)
    field-unlike rest = rw (same-both a rest (drop at s), missed s at a (sym q ∙ e))

    pub field-alone : false ≡ same a (drop at s)
    field-alone = rw (← append-nil a) (field-unlike [])

  -- it is the rest where it is found to end with the record
  pub field-whole : at ≤ length s → (b : Bool) → b ≡ option_eq eqb r (Some (length s)) → b ≡ same a (drop at s)
  field-whole h b = go r refl
    where
      go : (q : Option ℕ) → r ≡ q → b ≡ option_eq eqb q (Some (length s)) → b ≡ same a (drop at s)
      go (Some n) q f = f ∙ field-last n q h
      go None q f = f ∙ field-alone q

-- ---- a length in two bytes, then a text

-- the length tells where the text ends
pub sized-once : (t u a b : Text) → sized t ++ a ≡ sized u ++ b → (t ≡ u) × (a ≡ b)
unfolding sized
sized-once t u a b e =
    let low : length t % 256 ≡ length u % 256 = cc in
    let high : length t / 256 ≡ length u / 256 = cc in
    let rest : t ++ a ≡ u ++ b = cc in
    let n : length t ≡ length u = omega arith in
    let is : t ≡ u = sym (take_at t a (length t) refl) ∙ ap (take (length t)) rest ∙ take_at u b (length t) (sym n) in
    (is, sym (drop_at t a (length t) refl) ∙ ap (drop (length t)) rest ∙ drop_at u b (length t) (sym n))

module _ (s : Text) (at : ℕ) (want : Text) where
  -- the record ends before the length does
  pub text-short : length s - at < 2 → None ≡ field_at s at (sized want)
  unfolding sized
  text-short h = field-missed s at (sized want) (field-never s at (sized want) (λ rest e. omega (arith, ap length e, length-append (sized want) rest, length-drop at s)))

  -- the two bytes of a text that stands there
  pub text-size : (rest : Text) → drop at s ≡ sized want ++ rest → (get_or s at 0 ≡ length want % 256) × (get_or s (at + 1) 0 ≡ length want / 256)
  unfolding sized
  text-size rest e =
      let z : at + 0 ≡ at = omega arith in
      let a : get_or s (at + 0) 0 ≡ length want % 256 = sym (get_or-drop at s 0 0) ∙ ap (λ (l : Text). get_or l 0 0) e in
      (rw z at a, sym (get_or-drop at s 1 0) ∙ ap (λ (l : Text). get_or l 1 0) e)

  -- a text that is longer than two bytes tell is in no record
  pub text-too-long : Octets s → sized_room ≤ length want → begins (sized want) (drop at s) ≡ false
  text-too-long o h = field-never s at (sized want) (λ rest e. omega (arith, (text-size rest e).1, o (at + 1)))

  module _ (n : ℕ) (l : LengthTold s at n) where
    -- the record has another length
    pub text-other : (length want ≡ n → ⊥) → None ≡ field_at s at (sized want)
    text-other d = field-missed s at (sized want) (field-never s at (sized want) (λ rest e. let x = text-size rest e in d (omega (arith, x.0, x.1, l.is))))

    -- it has this one, and the text decides
    pub text-here : length want ≡ n → (r : Option ℕ) → r ≡ field_at s (at + 2) want → r ≡ field_at s at (sized want)
    unfolding field_at sized
    text-here e r f =
        let low = get_or s at 0 in
        let high = get_or s (at + 1) 0 in
        let a : length want % 256 ≡ low = omega (arith, l.is, l.small) in
        let b : length want / 256 ≡ high = omega (arith, l.is, l.small) in
        let two : at + 1 + 1 ≡ at + 2 = omega arith in
        let cut : drop at s ≡ low ∷ high ∷ drop (at + 2) s = rest-cons s at (omega (arith, l.room)) ∙ rw (rest-cons s (at + 1) (omega (arith, l.room)), two) in
        let size : at + 2 + length want ≡ at + suc (suc (length want)) = omega arith in
        f ∙ rw (a, b, cut, eq-eqb low low refl, eq-eqb high high refl, size)
