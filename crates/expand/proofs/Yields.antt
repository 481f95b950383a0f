-- What a name and a side yield, as places, and what these denote. Assumes nothing.
use Prim.Native.Nat.{ℕ, ◌+◌, ◌-◌, ◌≤◌}
use native.Mathlib.Omega.{arith}
use mathlib.Core.Path.{◌≡◌, refl, sym, ap, ◌∙◌}
use mathlib.Core.Bool.{Bool, true, false, cond}
use mathlib.Core.List.{[], ◌∷◌}
use mathlib.Core.Option.{Option, none, some}
use lib.ListN.{length, take, drop, length-append}
use Rattle.meaning.specs.Bytes.{Text, bytes, slash, begins, has_byte, after, or_empty, object_id}
use Rattle.meaning.specs.Prefix.{name_prefix, candidates, yielded_without, yielded_by, yielded}
use Rattle.promises.proofs.Captures.{begins-is}
use Rattle.text.proofs.Rests.{rest_part}
use Rattle.parse.specs.declared.types.Side.{Side}
use Rattle.parse.specs.declared.types.Side.TheVariants.{Absent, Part, Head}
use Rattle.parse.specs.Places.{part_at, side_meant, is_present, Within}
use Rattle.parse.proofs.Parts.{part_of, part_length}
use Rattle.expand.specs.declared.Yield.{Yield}
use Rattle.expand.specs.declared.Yield.TheVariants.{Nothing, One, Six}
use Rattle.refspec.specs.Prefixes.{prefix_at, prefix_place}
use Rattle.expand.specs.Yields.{yield_without, yield_by, yield_at, yield_place, yield_meant, YieldWithin}
use Rattle.refspec.proofs.Fronts.{IsFront, prefix-front, prefix-meant}

-- ---- what a name yields

-- a text that begins `refs/` has five bytes
pub refs-length : (t : Text) (b : Bool) → b ≡ begins (bytes "refs/") t → b ≡ true → 5 ≤ length t
refs-length t b is e = omega (arith, simp length-append at (ap length (begins-is (bytes "refs/") t (sym is ∙ e))))

-- a name without a prefix, by the branches of `name_yield`
module _ (at : ℕ) (t : Text) (b : Bool) (is : b ≡ begins (bytes "refs/") t) where
  module _ (yes : b ≡ true) (h : Bool) (eh : h ≡ has_byte 47 (take (length t - 5) (drop 5 t))) where
    -- what follows `refs/`
    rest-is : h ≡ has_byte slash (or_empty (after (bytes "refs/") t))
    rest-is = rw (sym is ∙ yes) (rw rest_part at eh)

    -- with a slash it yields nothing
    pub yield-deeper : h ≡ true → Nothing ≡ yield_without at t
    unfolding yield_without
    yield-deeper e = let g = sym rest-is ∙ e in rw (g, sym is ∙ yes)

    -- without one itself
    pub yield-itself : h ≡ false → One (Part at (length t)) ≡ yield_without at t
    unfolding yield_without
    yield-itself e = let g = sym rest-is ∙ e in rw (g, sym is ∙ yes)

  module _ (no : b ≡ false) (o : Bool) (eo : o ≡ object_id t) where
    -- an object id yields nothing
    pub yield-object : o ≡ true → Nothing ≡ yield_without at t
    unfolding yield_without
    yield-object e = rw (sym is ∙ no, sym eo ∙ e)

    -- another name its candidates
    pub yield-six : o ≡ false → Six at (length t) ≡ yield_without at t
    unfolding yield_without
    yield-six e = rw (sym is ∙ no, sym eo ∙ e)

-- the prefix of a part, or what it yields without one
module _ (t : Text) (at n : ℕ) (prefix : Side) (ep : prefix ≡ prefix_place t (Part at n)) (b : Bool) (is : b ≡ is_present prefix) where
  -- a prefix is yielded alone
  pub yield-prefix : b ≡ true → One prefix ≡ yield_at t at n
  yield-prefix e = rw ep (go (name_prefix (part_at t at n)) (rw ep at (sym is ∙ e)))
    where
      go : (o : Option Text) → is_present (prefix_at at o) ≡ true → One (prefix_at at o) ≡ yield_by at (part_at t at n) o
      go none h = absurd (let z : ◌≡◌ {A = ℕ} 0 1 = cc in omega arith)
      go (some p) h = refl

  -- without one the name decides
  pub yield-without : (y : Yield) → b ≡ false → y ≡ yield_without at (take (at + n - at) (drop at t)) → y ≡ yield_at t at n
  yield-without y e h = rw part_of at h ∙ go (name_prefix (part_at t at n)) (rw ep at (sym is ∙ e))
    where
      go : (o : Option Text) → is_present (prefix_at at o) ≡ false → yield_without at (part_at t at n) ≡ yield_by at (part_at t at n) o
      go none h = refl
      go (some p) h = absurd (let z : ◌≡◌ {A = ℕ} 0 1 = cc in omega arith)

-- the arms of a `match` on a side
module _ (t : Text) (side : Side) where
  -- a part
  pub yield-part : (at n : ℕ) (y : Yield) → side ≡ Part at n → y ≡ yield_at t at n → y ≡ yield_place t side
  yield-part at n y e h = rw e h

  -- the supplied `HEAD`
  pub yield-head : side ≡ Head → One Head ≡ yield_place t side
  yield-head e = rw e

-- ---- what a yield denotes

-- what a name without a prefix yields
without-meant : (t : Text) (at n : ℕ) → at + n ≤ length t → yield_meant t (yield_without at (part_at t at n)) ≡ yielded_without (part_at t at n)
unfolding yield_without yielded_without
without-meant t at n h = rw (part_length t at n h) (go (begins (bytes "refs/") (part_at t at n)) (has_byte slash (or_empty (after (bytes "refs/") (part_at t at n)))) (object_id (part_at t at n)))
  where
    go : (a b c : Bool) → yield_meant t (cond a (cond b Nothing (One (Part at n))) (cond c Nothing (Six at n))) ≡ cond a (cond b [] (part_at t at n ∷ [])) (cond c [] (candidates (part_at t at n)))
    go true true c = refl
    go true false c = refl
    go false b true = refl
    go false b false = refl

-- the yield of a side denotes what the side yields
pub yield-meant : (t : Text) (side : Side) → Within (length t) side → yield_meant t (yield_place t side) ≡ yielded (side_meant t side)
unfolding name_prefix
yield-meant t Absent w = refl
yield-meant t (Part at n) w = go (name_prefix (part_at t at n)) (prefix-meant t (Part at n) w)
  where
    go : (o : Option Text) → side_meant t (prefix_at at o) ≡ o → yield_meant t (yield_by at (part_at t at n) o) ≡ yielded_by (part_at t at n) o
    go none e = without-meant t at n w
    go (some p) e = ap (λ (q : Option Text). or_empty q ∷ []) e
yield-meant t Head w = refl

-- and stands within what the side stands within
pub yield-in : (t : Text) (side : Side) → Within (length t) side → YieldWithin (length t) (yield_place t side)
unfolding name_prefix yield_without
yield-in t Absent w = tt
yield-in t (Part at n) w = go (name_prefix (part_at t at n)) (prefix-front (part_at t at n))
  where
    without : (a b c : Bool) (m : ℕ) → m ≤ n → YieldWithin (length t) (cond a (cond b Nothing (One (Part at m))) (cond c Nothing (Six at m)))
    without true true c m h = tt
    without true false c m h = omega arith
    without false b true m h = tt
    without false b false m h = omega arith

    go : (o : Option Text) → IsFront (part_at t at n) o → YieldWithin (length t) (yield_by at (part_at t at n) o)
    go none f = without (begins (bytes "refs/") (part_at t at n)) (has_byte slash (or_empty (after (bytes "refs/") (part_at t at n)))) (object_id (part_at t at n)) (length (part_at t at n)) (omega (arith, part_length t at n w))
    go (some p) f = omega (arith, f.at_most, part_length t at n w)
yield-in t Head w = tt
