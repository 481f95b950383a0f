-- What the sides of a spec are read as, by the branches of the code, and that both make the matcher of the spec. Assumes nothing.
use Prim.Native.Nat.{ℕ, suc, ◌+◌, ◌-◌, ◌≤◌, ◌<◌}
use native.Mathlib.Omega.{arith}
use mathlib.Core.Path.{◌≡◌, refl, sym, ap, ◌∙◌}
use mathlib.Core.Bool.{Bool, true, false}
use mathlib.Core.Option.{some}
use lib.ListN.{length, take, drop}
use Rattle.meaning.specs.Bytes.{Text, bytes, star, begins, object_id}
use Rattle.meaning.specs.Spec.{is_negative, starred}
use Rattle.meaning.specs.Prefix.{before_star}
use Rattle.meaning.specs.Match.{literal, pattern, form_of, plain_needle, needle_of, completed}
use Rattle.text.specs.Place.{first_at}
use Rattle.parse.specs.declared.types.Side.{Side}
use Rattle.parse.specs.declared.types.Side.TheVariants as side
use Rattle.parse.specs.declared.types.RefSpec.{RefSpec}
use Rattle.parse.specs.Places.{mode_meant, part_at, Within, SidesWithin, spec_meant}
use Rattle.parse.proofs.Parts.{part_of, part_length}
use Rattle.refspec.proofs.Fronts.{before-star-length, before-star-front, no-star, a-star}
use Rattle.promises.proofs.Captures.{form-plain, form-starred}
use Rattle.matcher.specs.declared.types.Needle.{Needle}
use Rattle.matcher.specs.declared.types.Needle.TheVariants as needle
use Rattle.matcher.specs.declared.types.Lead.{Lead}
use Rattle.matcher.specs.declared.types.Lead.TheVariants as lead
use Rattle.matcher.specs.declared.types.Target.{Target}
use Rattle.matcher.specs.declared.types.Target.TheVariants as target
use Rattle.matcher.specs.Matching.{NeedleWithin, TargetWithin, Matches}
use Rattle.matcher.specs.Sides.{NeedleStar, TargetStar, LeadOf, NeedleOf, NeedleFor, TargetOf, TargetFor}

-- the form of a text by the place of its first star
module _ (t : Text) (k : ℕ) (ek : k ≡ first_at star t) where
  -- one before the end
  form-star : k < length t → form_of t ≡ pattern (take k t) (drop (suc k) t)
  unfolding starred
  form-star h =
      let n : length (before_star t) ≡ k = before-star-length t ∙ sym ek in
      let p : before_star t ≡ take k t = sym (before-star-front t) ∙ ap (λ (i : ℕ). take i t) n in
      form-starred t (a-star t (λ e. omega (arith, ek)))
      ∙ ap (λ (a : Text). pattern a (drop (suc (length (before_star t))) t)) p
      ∙ ap (λ (i : ℕ). pattern (take k t) (drop (suc i) t)) n

  -- none
  form-none : k ≤ length t → length t ≤ k → form_of t ≡ literal t
  unfolding starred
  form-none u l = form-plain t (no-star t (omega (arith, ek)))

-- ---- a source

module _ (negative : Bool) (t : Text) (k : ℕ) (ek : k ≡ first_at star t) where
  -- with a star
  pub needle-star : k < length t → NeedleOf negative t (needle.Glob k)
  unfolding needle_of
  needle-star h = record { meant = rw (form-star t k ek h); starred = h }

  module _ (u : k ≤ length t) (l : length t ≤ k) where
    plain : needle_of negative t ≡ plain_needle negative t
    unfolding needle_of
    plain = rw (form-none t k ek u l)

    -- a negative one without
    pub needle-negative : negative ≡ true → NeedleOf negative t needle.FullName
    unfolding plain_needle
    needle-negative e = record { meant = ap some (sym (plain ∙ rw e)); starred = tt }

    module _ (positive : negative ≡ false) (r : Bool) (er : r ≡ begins (bytes "refs/") t) where
      -- one that begins `refs/`
      pub needle-refs : r ≡ true → NeedleOf negative t needle.FullName
      unfolding plain_needle
      needle-refs e = record { meant = ap some (sym (plain ∙ rw (positive, sym er ∙ e))); starred = tt }

      module _ (n : r ≡ false) (o : Bool) (eo : o ≡ object_id t) where
        -- an object id
        pub needle-object : o ≡ true → NeedleOf negative t needle.Object
        unfolding plain_needle
        needle-object e = record { meant = ap some (sym (plain ∙ rw (positive, sym er ∙ n, sym eo ∙ e))); starred = tt }

        -- any other
        pub needle-partial : o ≡ false → NeedleOf negative t needle.PartialName
        unfolding plain_needle
        needle-partial e = record { meant = ap some (sym (plain ∙ rw (positive, sym er ∙ n, sym eo ∙ e))); starred = tt }

-- `HEAD`
module _ (specs : Text) (negative : Bool) (s : Side) (is : s ≡ side.Head) where
  pub head-negative : negative ≡ true → NeedleFor specs negative s needle.FullName
  unfolding needle_of form_of starred plain_needle
  head-negative e = rw is (record { meant = rw e; within = tt })

  pub head-partial : negative ≡ false → NeedleFor specs negative s needle.PartialName
  unfolding needle_of form_of starred plain_needle object_id
  head-partial e = rw is (record { meant = rw e; within = tt })

-- a needle's star in a part
needle-within : (at n : ℕ) (r : Needle) → NeedleStar n r → NeedleWithin (side.Part at n) r
needle-within at n needle.Absent h = tt
needle-within at n (needle.Glob k) h = h
needle-within at n needle.FullName h = tt
needle-within at n needle.Object h = tt
needle-within at n needle.PartialName h = tt

-- the arm of a `match` on a source that is a part, as it is lent
pub needle-side : (specs : Text) (negative : Bool) (s : Side) (at n : ℕ) (r : Needle) → s ≡ side.Part at n → Within (length specs) s → NeedleOf negative (take (at + n - at) (drop at specs)) r → NeedleFor specs negative s r
needle-side specs negative s at n r e w h =
    let l : at + n ≤ length specs = rw e at w in
    let p : NeedleOf negative (part_at specs at n) r = rw part_of at h in
    rw e (record { meant = p.meant; within = needle-within at n r (rw (part_length specs at n l) at p.starred) })

-- ---- a destination

-- how it is led, by the branches of `lead_of`
module _ (t : Text) (r : Bool) (er : r ≡ begins (bytes "refs/") t) where
  pub lead-as-is : r ≡ true → LeadOf t lead.AsIs
  unfolding completed
  lead-as-is e = record { completes = rw (sym er ∙ e); digits = tt }

  module _ (nr : r ≡ false) (o : Bool) (eo : o ≡ object_id t) where
    pub lead-digits : o ≡ true → LeadOf t lead.HeadsDigits
    unfolding completed
    lead-digits e = record { completes = rw (sym er ∙ nr, sym eo ∙ e); digits = sym eo ∙ e }

    module _ (no : o ≡ false) (a : Bool) (ea : a ≡ begins (bytes "tags/") t) where
      pub lead-tags : a ≡ true → LeadOf t lead.Refs
      unfolding completed
      lead-tags e = record { completes = rw (sym er ∙ nr, sym eo ∙ no, sym ea ∙ e); digits = tt }

      module _ (na : a ≡ false) (b : Bool) (eb : b ≡ begins (bytes "remotes/") t) where
        pub lead-remotes : b ≡ true → LeadOf t lead.Refs
        unfolding completed
        lead-remotes e = record { completes = rw (sym er ∙ nr, sym eo ∙ no, sym ea ∙ na, sym eb ∙ e); digits = tt }

        pub lead-heads : b ≡ false → LeadOf t lead.Heads
        unfolding completed
        lead-heads e = record { completes = rw (sym er ∙ nr, sym eo ∙ no, sym ea ∙ na, sym eb ∙ e); digits = tt }

module _ (t : Text) (k : ℕ) (ek : k ≡ first_at star t) where
  -- with a star
  pub target-star : k < length t → TargetOf t (target.Pattern k)
  target-star h = record { meant = rw (form-star t k ek h); completes = tt; digits = tt; starred = h }

  -- without
  pub target-literal : k ≤ length t → length t ≤ k → (l : Lead) → LeadOf t l → TargetOf t (target.Literal l)
  target-literal u v l h = record { meant = rw (form-none t k ek u v); completes = h.completes; digits = h.digits; starred = tt }

-- a target's star in a part
target-within : (at n : ℕ) (r : Target) → TargetStar n r → TargetWithin (side.Part at n) r
target-within at n target.Absent h = tt
target-within at n (target.Pattern k) h = h
target-within at n (target.Literal l) h = tt

-- the arms of a `match` on a destination
module _ (specs : Text) (s : Side) where
  -- a part as it is lent
  pub target-side : (at n : ℕ) (r : Target) → s ≡ side.Part at n → Within (length specs) s → TargetOf (take (at + n - at) (drop at specs)) r → TargetFor specs s r
  target-side at n r e w h =
      let l : at + n ≤ length specs = rw e at w in
      let p : TargetOf (part_at specs at n) r = rw part_of at h in
      rw e (record { meant = p.meant; completes = p.completes; digits = p.digits; within = target-within at n r (rw (part_length specs at n l) at p.starred) })

  pub target-head : s ≡ side.Head → TargetFor specs s (target.Literal lead.Heads)
  unfolding form_of starred completed object_id
  target-head e = rw e (record { meant = refl; completes = refl; digits = tt; within = tt })

-- ---- the matcher

-- what the sides are read as makes the matcher of the spec
pub matcher-is : (specs : Text) (r : RefSpec) (b : Bool) (lhs : Needle) (rhs : Target) → SidesWithin (length specs) r → b ≡ is_negative (mode_meant r.mode)
    → NeedleFor specs b r.src lhs → TargetFor specs r.dst rhs → Matches specs (spec_meant specs r) (record { src = r.src; lhs = lhs; dst = r.dst; rhs = rhs })
unfolding spec_meant
matcher-is specs r b lhs rhs w e n t =
    record {
      src-is = refl;
      dst-is = refl;
      lhs-is = rw e at n.meant;
      rhs-is = t.meant;
      completes = t.completes;
      within = record { src-within = w.src-within; dst-within = w.dst-within; lhs-within = n.within; rhs-within = t.within };
    }
