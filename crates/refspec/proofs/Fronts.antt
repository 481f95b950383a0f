-- The prefix of a name is what it begins with, and its place denotes it. Assumes nothing.
use Prim.Native.Nat.{ℕ, suc, ◌+◌, ◌≤◌, ◌<◌}
use native.Mathlib.Nat.{suc-ne-zero}
use native.Mathlib.Omega.{arith}
use mathlib.Core.Path.{◌≡◌, refl, sym, ap, ◌∙◌}
use mathlib.Core.Bool.{Bool, true, false, not, cond}
use mathlib.Core.List.{[], ◌∷◌}
use mathlib.Core.Option.{Option, none, some}
use Rattle.std.specs.Prelude.{None, Some}
use borrow.Author.Tests.{eqb-true}
use lib.Dec.{eqb}
use lib.ListN.{length, take, drop}
use lib.Seq.{take_all, take-take}
use Rattle.meaning.specs.Bytes.{Text, bytes, star, ◌and◌, ◌or◌, any, same, begins, has_byte}
use Rattle.meaning.specs.Spec.{is_negative, push, starred}
use Rattle.meaning.specs.Prefix.{before_star, name_prefix, remote_side, prefix_of}
use Rattle.text.specs.Place.{first_at}
use Rattle.parse.specs.declared.types.Side.{Side}
use Rattle.parse.specs.declared.types.Side.TheVariants.{Absent, Part, Head}
use Rattle.parse.specs.declared.types.RefSpec.{RefSpec}
use Rattle.parse.specs.Places.{mode_meant, part_at, side_meant, Within, SidesWithin, spec_meant}
use Rattle.parse.proofs.Parts.{part_length}
use Rattle.refspec.specs.Prefixes.{remote_place, prefix_size, prefix_at, prefix_place}

-- two facts about constants
true-not-false : true ≡ false → ⊥
true-not-false e = let z : ◌≡◌ {A = ℕ} 0 1 = cc in omega arith

lt-ne : {n : ℕ} → 0 < n → n ≡ 0 → ⊥
lt-ne h e = omega arith

-- ---- the text before the star

-- it has as many bytes as the place of the first star says
pub before-star-length : (t : Text) → length (before_star t) ≡ first_at star t
before-star-length [] = refl
before-star-length (x ∷ t) = go (eqb star x) (before-star-length t)
  where
    go : (b : Bool) → length (before_star t) ≡ first_at star t → length (cond b [] (x ∷ before_star t)) ≡ cond b 0 (suc (first_at star t))
    go true e = refl
    go false e = ap suc e

-- and is what the text begins with
pub before-star-front : (t : Text) → take (length (before_star t)) t ≡ before_star t
before-star-front [] = refl
before-star-front (x ∷ t) = go (eqb star x) (before-star-front t)
  where
    go : (b : Bool) → take (length (before_star t)) t ≡ before_star t → take (length (cond b [] (x ∷ before_star t))) (x ∷ t) ≡ cond b [] (x ∷ before_star t)
    go true e = refl
    go false e = ap (λ (l : Text). x ∷ l) e

-- the first star stands in the text or at its end
first-within : (b : ℕ) (t : Text) → first_at b t ≤ length t
first-within b [] = omega arith
first-within b (x ∷ t) = go (eqb b x) (first-within b t)
  where
    go : (c : Bool) → first_at b t ≤ length t → cond c 0 (suc (first_at b t)) ≤ suc (length t)
    go true e = omega arith
    go false e = omega arith

-- a text has no star if the first one stands at its end
pub no-star : (t : Text) → first_at star t ≡ length t → has_byte star t ≡ false
no-star [] e = refl
no-star (x ∷ t) e = go (eqb star x) refl e (no-star t)
  where
    go : (b : Bool) → eqb star x ≡ b → cond b 0 (suc (first_at star t)) ≡ suc (length t) → (first_at star t ≡ length t → any (eqb star) t ≡ false) → (eqb star x or any (eqb star) t) ≡ false
    go true h z f = absurd (suc-ne-zero (length t) (sym z))
    go false h z f = rw h (f (omega arith))

-- and has one if it stands before that
pub a-star : (t : Text) → (first_at star t ≡ length t → ⊥) → has_byte star t ≡ true
a-star [] n = absurd (n refl)
a-star (x ∷ t) n = go (eqb star x) refl n (a-star t)
  where
    go : (b : Bool) → eqb star x ≡ b → (cond b 0 (suc (first_at star t)) ≡ suc (length t) → ⊥) → ((first_at star t ≡ length t → ⊥) → any (eqb star) t ≡ true) → (eqb star x or any (eqb star) t) ≡ true
    go true h m f = rw h
    go false h m f = rw h (f (λ e. m (ap suc e)))

-- what the place of the first star tells
pub ruleset star_place = (no-star, a-star, before-star-length)

-- ---- a prefix is a front

-- some bytes that a text begins with
pub record Front (t p : Text) : Type 0 where
  pub some_bytes : 0 < length p
  pub at_most : length p ≤ length t
  pub front : take (length p) t ≡ p

-- a prefix of a text, if there is one, is such bytes
abbrev pub IsFront : Text → Option Text → Type 0
IsFront t none = Unit {0}
IsFront t (some p) = Front t p

-- a text is a front of itself
whole-front : (t : Text) → 0 < length t → IsFront t (some t)
whole-front t h = record { some_bytes = h; at_most = omega arith; front = take_all (length t) t (omega arith) }

-- what is `HEAD` has a byte
same_some : (t : Text) → same t (bytes "HEAD") ≡ true → 0 < length t
same_some [] e = absurd (true-not-false (sym e))
same_some (x ∷ t) e = omega arith

-- what begins `refs/` has one before its star
begins-some : (t : Text) → begins (bytes "refs/") t ≡ true → 0 < length (before_star t)
begins-some [] e = absurd (true-not-false (sym e))
begins-some (x ∷ t) e = rw (sym (eqb-true 114 x (first (eqb 114 x) e))) (omega arith)
  where
    first : (b : Bool) → (b and begins (bytes "efs/") t) ≡ true → b ≡ true
    first true h = refl
    first false h = h

-- the prefix of a name is what it begins with
pub prefix-front : (t : Text) → IsFront t (name_prefix t)
unfolding name_prefix
prefix-front t = go (same t (bytes "HEAD")) (begins (bytes "refs/") t) (starred t) (begins (bytes "refs/*") t or has_byte 93 t) refl refl
  where
    go : (a b c d : Bool) → same t (bytes "HEAD") ≡ a → begins (bytes "refs/") t ≡ b → IsFront t (cond a (some t) (cond (not b) none (cond (not c) (some t) (cond d none (some (before_star t))))))
    go true b c d ea eb = whole-front t (same_some t ea)
    go false false c d ea eb = tt
    go false true false d ea eb = whole-front t (omega (arith, begins-some t eb, before-star-length t, first-within star t))
    go false true true true ea eb = tt
    go false true true false ea eb = record { some_bytes = begins-some t eb; at_most = omega (arith, before-star-length t, first-within star t); front = before-star-front t }

-- no prefix is an absent side
pub placed_none : (at : ℕ) (o : Option Text) → prefix_size o ≡ None → prefix_at at o ≡ Absent
placed_none at none e = refl
placed_none at (some p) e = absurd cc

-- a prefix begins where its name does
pub placed_some : (at k : ℕ) (o : Option Text) → prefix_size o ≡ Some k → prefix_at at o ≡ Part at k
placed_some at k none e = absurd cc
placed_some at k (some p) e = let f : length p ≡ k = cc in ap (Part at) f

-- ---- the place of a prefix denotes it

prefix-at-meant : (t : Text) (at n : ℕ) (o : Option Text) → at + n ≤ length t → IsFront (part_at t at n) o → side_meant t (prefix_at at o) ≡ o
prefix-at-meant t at n none h f = refl
prefix-at-meant t at n (some p) h f =
    ap some (sym (take-take (length p) n (drop at t) (omega (arith, f.at_most, part_length t at n h))) ∙ f.front)

-- the place of the prefix of a side denotes the prefix of what the side denotes
pub prefix-meant : (t : Text) (side : Side) → Within (length t) side → side_meant t (prefix_place t side) ≡ prefix_of (side_meant t side)
unfolding name_prefix
prefix-meant t Absent w = refl
prefix-meant t (Part at n) w = prefix-at-meant t at n (name_prefix (part_at t at n)) w (prefix-front (part_at t at n))
prefix-meant t Head w = refl

-- the side that prefixes are taken from denotes the meaning's
pub remote-meant : (op : ℕ) (t : Text) (r : RefSpec) → side_meant t (remote_place op r) ≡ remote_side op (spec_meant t r)
unfolding remote_place remote_side spec_meant
remote-meant op t r = go (is_negative (mode_meant r.mode)) (push op)
  where
    go : (a b : Bool) → side_meant t (cond a Absent (cond b r.dst r.src)) ≡ cond a none (cond b (side_meant t r.dst) (side_meant t r.src))
    go true b = refl
    go false true = refl
    go false false = refl

-- that side stands within the spec
pub remote-within : (op len : ℕ) (r : RefSpec) (side : Side) → SidesWithin len r → side ≡ remote_place op r → Within len side
unfolding remote_place
remote-within op len r side w e = rw e (go (is_negative (mode_meant r.mode)) (push op))
  where
    go : (a b : Bool) → Within len (cond a Absent (cond b r.dst r.src))
    go true b = tt
    go false true = w.dst-within
    go false false = w.src-within

-- the prefix of a spec is that of the side it is taken from
pub prefix-of-remote : (op : ℕ) (t : Text) (r : RefSpec) (side p : Side) → side ≡ remote_place op r → p ≡ prefix_place t side → p ≡ prefix_place t (remote_place op r)
prefix-of-remote op t r side p e h = rw (← e) h
