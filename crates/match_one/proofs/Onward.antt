-- The ends of a name forward, by the arms of the code, and that they mean what the spec makes of the name. Assumes nothing.
use Prim.Native.Nat.{ℕ, suc, ◌+◌, ◌≤◌}
use native.Mathlib.Omega.{arith}
use mathlib.Core.Path.{◌≡◌, refl, sym, ap, ◌∙◌}
use mathlib.Core.Bool.{Bool, true, false, not, cond, false≢true}
use Rattle.std.specs.Prelude as prelude
use mathlib.Core.Logic.{◌⊎◌, inl, inr}
use mathlib.Core.Option.{Option, none, some, map}
use lib.ListN.{length, take, drop}
use Rattle.meaning.specs.Bytes.{Text, any, same}
use Rattle.meaning.specs.Spec.{Spec, is_negative}
use Rattle.meaning.specs.Prefix.{candidates}
use Rattle.meaning.specs.Match.{form_of, needle_of, Hit, miss, whole, caught, whole_if, caught_by, capture, mapped, maps_to, forward_by, forward}
use Rattle.meaning.specs.Listing.{ends_of, forward_ends}
use Rattle.glob.specs.declared.Captured.{Captured}
use Rattle.glob.specs.Captures.{capture_meant, CaptureWithin}
use Rattle.parse.specs.declared.types.Side.{Side}
use Rattle.parse.specs.Places.{part_at, Within}
use Rattle.refspec.specs.Instructions.{side_text}
use Rattle.matcher.specs.declared.types.Needle.{Needle}
use Rattle.matcher.specs.declared.types.Needle.TheVariants as needle
use Rattle.matcher.specs.declared.types.Target.{Target}
use Rattle.matcher.specs.declared.types.Target.TheVariants as target
use Rattle.matcher.specs.declared.types.Matcher.{Matcher}
use Rattle.matcher.specs.declared.types.RowText.TheVariants as row-text
use Rattle.matcher.specs.declared.types.Ends.{Ends}
use Rattle.matcher.specs.Matching.{ends_meant, needle_meant, target_meant, Completes, StarIn, NeedleWithin, TargetWithin, Matches}
use Rattle.match_one.specs.Answers.{whole_places, caught_places, is_star, takes, whole_hit, hit_meant, destination_place, forward_row, forward_made, hit_by, maps_led, Answers}
use Rattle.match_one.proofs.Fills.{filled-meant, filled_within}

-- ---- stars

-- the star of a source stands in it
pub needle-star-in : (src : Side) (lhs : Needle) (star : ℕ) → lhs ≡ needle.Glob star → NeedleWithin src lhs → StarIn star src
needle-star-in src lhs star is h = rw is at h

-- that of a destination too
pub target-star-in : (dst : Side) (rhs : Target) (star : ℕ) → rhs ≡ target.Pattern star → TargetWithin dst rhs → StarIn star dst
target-star-in dst rhs star is h = rw is at h

-- ---- the ends that places denote

module _ (specs name : Text) (dst : Side) (w : Within (length specs) dst) where
  -- after a match as a whole
  pub whole-answers : (rhs : Target) → Answers specs name dst rhs whole (whole_places dst rhs)
  whole-answers target.Absent = record { meant = refl; within = (tt, tt) }
  whole-answers (target.Pattern star) = record { meant = refl; within = tt }
  whole-answers (target.Literal l) = record { meant = refl; within = (tt, w) }

  -- after one with a capture
  pub caught-answers : (rhs : Target) (from n : ℕ) → TargetWithin dst rhs → from + n ≤ length name → Answers specs name dst rhs (caught (part_at name from n)) (caught_places dst rhs from n)
  caught-answers target.Absent from n h l = record { meant = refl; within = (tt, tt) }
  caught-answers (target.Pattern star) from n h l =
      record {
        meant = ap (λ (o : Option Text). some (record { source = name; destination = o })) (filled-meant specs name dst star from n w h);
        within = (tt, filled_within (length specs) (length name) dst star from n w h l);
      }
  caught-answers (target.Literal l') from n h l = record { meant = refl; within = tt }

-- ---- what a source catches

module _ (specs name : Text) (src : Side) (lhs : Needle) where
  pub nothing-hit : (lhs ≡ needle.Absent) ⊎ (lhs ≡ needle.Object) → hit_meant name lhs prelude.None ≡ hit_by (needle_meant (side_text specs src) lhs) name
  nothing-hit (inl is) = rw is
  nothing-hit (inr is) = rw is

  pub glob-hit : (star : ℕ) → lhs ≡ needle.Glob star → (g : prelude.Option Captured) → capture_meant name g ≡ capture (take star (side_text specs src)) (drop (suc star) (side_text specs src)) name
      → hit_meant name lhs g ≡ hit_by (needle_meant (side_text specs src) lhs) name
  glob-hit star is g eg = rw (is, ← eg) (go g)
    where
      go : (g : prelude.Option Captured) → hit_meant name (needle.Glob star) g ≡ caught_by (capture_meant name g)
      go prelude.None = refl
      go (prelude.Some c) = refl

  module _ (u : Text) (eu : u ≡ side_text specs src) (b : Bool) (g : prelude.Option Captured) (eg : g ≡ whole_hit b) where
    pub full-hit : lhs ≡ needle.FullName → b ≡ same u name → hit_meant name lhs g ≡ hit_by (needle_meant (side_text specs src) lhs) name
    full-hit is eb = rw (is, eg, ← eu, ← eb) (go b)
      where
        go : (b : Bool) → hit_meant name needle.FullName (whole_hit b) ≡ whole_if b
        go true = refl
        go false = refl

    pub partial-hit : lhs ≡ needle.PartialName → b ≡ any (same name) (candidates u) → hit_meant name lhs g ≡ hit_by (needle_meant (side_text specs src) lhs) name
    partial-hit is eb = rw (is, eg, ← eu, ← eb) (go b)
      where
        go : (b : Bool) → hit_meant name needle.PartialName (whole_hit b) ≡ whole_if b
        go true = refl
        go false = refl

-- nothing or a whole name stands in each name
pub whole-within : (n : ℕ) (b : Bool) (g : prelude.Option Captured) → g ≡ whole_hit b → CaptureWithin n g
whole-within n b g eg = rw eg (go b)
  where
    go : (b : Bool) → CaptureWithin n (whole_hit b)
    go true = omega arith
    go false = tt

-- ---- the ends that come of it

module _ (specs name : Text) (m : Matcher) (g : prelude.Option Captured) (eg : hit_meant name m.lhs g ≡ hit_by (needle_meant (side_text specs m.src) m.lhs) name) where
  pub hit-missed : g ≡ prelude.None → (r : prelude.Option Captured) → r ≡ prelude.None → Answers specs name m.dst m.rhs (hit_by (needle_meant (side_text specs m.src) m.lhs) name) (forward_made m r)
  hit-missed e r er = rw (← eg, e, er) (record { meant = refl; within = tt })

  module _ (c : Captured) (is : g ≡ prelude.Some c) (b : Bool) (eb : b ≡ takes m.lhs m.rhs) where
    pub hit-left : b ≡ false → Answers specs name m.dst m.rhs (hit_by (needle_meant (side_text specs m.src) m.lhs) name) prelude.None
    hit-left e = rw (← eg, is) (go (is_star m.lhs) refl m.rhs (sym eb ∙ e))
      where
        go : (s : Bool) → is_star m.lhs ≡ s → (t : Target) → takes m.lhs t ≡ false → Answers specs name m.dst t (cond s (caught (part_at name c.from c.len)) whole) prelude.None
        go s q target.Absent h = absurd (false≢true (sym h))
        go true q (target.Pattern star) h = absurd (false≢true (sym h ∙ q))
        go false q (target.Pattern star) h = record { meant = refl; within = tt }
        go true q (target.Literal l) h = record { meant = refl; within = tt }
        go false q (target.Literal l) h = absurd (false≢true (sym h ∙ ap not q))

    pub hit-taken : b ≡ true → CaptureWithin (length name) g → Within (length specs) m.dst → TargetWithin m.dst m.rhs → Answers specs name m.dst m.rhs (hit_by (needle_meant (side_text specs m.src) m.lhs) name) (prelude.Some (forward_row m c))
    hit-taken e l w h =
        let f : c.from + c.len ≤ length name = rw is at l in
        rw (← eg, is) (go (is_star m.lhs) refl m.rhs (sym eb ∙ e) h f)
      where
        go : (s : Bool) → is_star m.lhs ≡ s → (t : Target) → takes m.lhs t ≡ true → TargetWithin m.dst t → c.from + c.len ≤ length name
            → Answers specs name m.dst t (cond s (caught (part_at name c.from c.len)) whole) (prelude.Some (record { source = row-text.Name; destination = destination_place m.dst t c }))
        go true q target.Absent h u f = record { meant = refl; within = (tt, tt) }
        go false q target.Absent h u f = record { meant = refl; within = (tt, tt) }
        go true q (target.Pattern star) h u f = caught-answers specs name m.dst w (target.Pattern star) c.from c.len u f
        go false q (target.Pattern star) h u f = absurd (false≢true (sym q ∙ h))
        go true q (target.Literal l) h u f = absurd (false≢true (sym (ap not q) ∙ h))
        go false q (target.Literal l) h u f = whole-answers specs name m.dst w (target.Literal l)

-- ---- the spec

-- a literal that is led is the completed one
pub led-maps : (h : Hit) (t : Text) (rhs : Target) → Completes t rhs → maps_led h t rhs ≡ maps_to h (target_meant t rhs)
led-maps miss t rhs c = refl
led-maps whole t target.Absent c = refl
led-maps whole t (target.Pattern star) c = refl
led-maps whole t (target.Literal l) c = ap (λ (u : Text). mapped (some u)) (sym c)
led-maps (caught u) t target.Absent c = refl
led-maps (caught u) t (target.Pattern star) c = refl
led-maps (caught u) t (target.Literal l) c = refl

-- the ends mean what the matcher's spec makes of the name
pub forward-told : (specs name : Text) (m : Matcher) (r : prelude.Option Ends) → Answers specs name m.dst m.rhs (hit_by (needle_meant (side_text specs m.src) m.lhs) name) r
    → (s : Spec) → Matches specs s m → ends_meant specs name r ≡ forward_ends s name
unfolding forward_ends forward
forward-told specs name m r a s h =
    let u : maps_to (hit_by (needle_meant (side_text specs m.src) m.lhs) name) (target_meant (side_text specs m.dst) m.rhs) ≡ forward_by (is_negative s.mode) s.source s.destination name =
    rw (h.lhs-is, h.rhs-is) (go s.source) in
    a.meant ∙ ap (ends_of name) (led-maps (hit_by (needle_meant (side_text specs m.src) m.lhs) name) (side_text specs m.dst) m.rhs h.completes ∙ u)
  where
    go : (o : Option Text) → maps_to (hit_by (map (needle_of (is_negative s.mode)) o) name) (map form_of s.destination) ≡ forward_by (is_negative s.mode) o s.destination name
    go none = refl
    go (some t) = refl

-- so the ends are told in both ways
pub forward-both : (specs name : Text) (m : Matcher) (r : prelude.Option Ends) → Answers specs name m.dst m.rhs (hit_by (needle_meant (side_text specs m.src) m.lhs) name) r
    → Answers specs name m.dst m.rhs (hit_by (needle_meant (side_text specs m.src) m.lhs) name) r × ((s : Spec) → Matches specs s m → ends_meant specs name r ≡ forward_ends s name)
forward-both specs name m r a = (a, λ s h. forward-told specs name m r a s h)
