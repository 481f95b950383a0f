-- The targets of specs that were read, and the report. Assumes nothing.
use Prim.Native.Nat.{ℕ, ◌≤◌}
use native.Mathlib.Omega.{arith}
use mathlib.Core.Path.{◌≡◌, refl, sym, ap, ◌∙◌}
use mathlib.Core.Bool.{Bool, true, false}
use mathlib.Core.List.{[], ◌∷◌}
use mathlib.Core.Option.{Option, none, some, map}
use lib.ListN.{length}
use Rattle.meaning.specs.Bytes.{Text}
use Rattle.meaning.specs.Limits.{spec_bytes, spec_list_bytes}
use Rattle.meaning.specs.Spec as meaning
use Rattle.meaning.specs.Spec.{Answer, accepted, refused, is_negative}
use Rattle.meaning.specs.Match.{form_of}
use Rattle.meaning.specs.Collide as collide
use Rattle.meaning.specs.Collide.{as_written, shared_by, collision, collide_bytes}
use Rattle.parse.specs.declared.types.Side.{Side}
use Rattle.parse.specs.declared.types.Side.TheVariants as side
use Rattle.parse.specs.declared.types.RefSpec.{RefSpec}
use Rattle.std.specs.Prelude.{Result, Ok, Err}
use Rattle.refusal.specs.declared.Refusal.{Refusal}
use Rattle.refusal.specs.Numbers.{number_of}
use Rattle.parse.specs.Places.{mode_meant, side_meant, Within, SidesWithin, spec_meant, parsed}
use Rattle.parse.proofs.Parts.{part_length}
use Rattle.parse.proofs.Answers.{read-accepted, read-refused}
use Rattle.refspec.specs.Instructions.{side_text}
use Rattle.refspec.proofs.Texts.{side-short}
use Rattle.matcher.specs.declared.types.Target.{Target}
use Rattle.matcher.specs.declared.types.Target.TheVariants as target
use Rattle.matcher.specs.Matching.{target_meant, Completes, TargetWithin}
use Rattle.matcher.specs.Sides.{TargetStar, TargetFor}
use Rattle.collide.specs.Targets.{form_written, Writes, report_after}

-- ---- where a spec writes

-- a completed literal is the one that is led
completed-as : (t : Text) (r : Target) → Completes t r → form_written t r ≡ map as_written (target_meant t r)
completed-as t target.Absent h = refl
completed-as t (target.Pattern i) h = refl
completed-as t (target.Literal l) h = rw h

-- a star that stands in a side stands in its text
star-in-text : (spec : Text) (s : Side) → Within (length spec) s → (r : Target) → TargetWithin s r → TargetStar (length (side_text spec s)) r
star-in-text spec s w target.Absent h = tt
star-in-text spec side.Absent w (target.Pattern i) h = absurd h
star-in-text spec (side.Part at n) w (target.Pattern i) h = rw (part_length spec at n w) h
star-in-text spec side.Head w (target.Pattern i) h = absurd h
star-in-text spec s w (target.Literal l) h = tt

-- a completed form after the form of a text
written-map : (o : Option Text) → map as_written (map form_of o) ≡ map (λ d. as_written (form_of d)) o
written-map none = refl
written-map (some d) = refl

module _ (spec : Text) (r : RefSpec) (w : SidesWithin (length spec) r) (size : length spec ≤ spec_bytes) (b : Bool) (eb : b ≡ is_negative (mode_meant r.mode)) where
  few : length (side_text spec r.dst) ≤ spec_list_bytes
  few = omega (arith, side-short spec r.dst w.dst-within)

  -- nowhere if it is negative
  pub negative-writes : b ≡ true → Writes (side_text spec r.dst) (spec_meant spec r) target.Absent
  unfolding spec_meant collide.target
  negative-writes e = record { written = rw (sym eb ∙ e); stands = record { starred = tt; digits = tt; few = few } }

  -- else where its destination is
  pub target_writes : b ≡ false → (x : Target) → TargetFor spec r.dst x → Writes (side_text spec r.dst) (spec_meant spec r) x
  unfolding spec_meant collide.target
  target_writes e x h =
      record {
        written = completed-as (side_text spec r.dst) x h.completes ∙ ap (map as_written) h.meant ∙ written-map (side_meant spec r.dst) ∙ rw (sym eb ∙ e);
        stands = record { starred = star-in-text spec r.dst w.dst-within x h.within; digits = h.digits; few = few };
      }

-- ---- two specs

-- what their targets share is their collision
pub collision-is : (t : Text) (s : meaning.Spec) (x : Target) → Writes t s x → (u : Text) (r : meaning.Spec) (y : Target) → Writes u r y → (t₁ u₁ : Text) → t₁ ≡ t → u₁ ≡ u → shared_by (form_written t₁ x) (form_written u₁ y) ≡ collision s r
unfolding collision
collision-is t s x w u r y v t₁ u₁ e f = rw (e, f, w.written, v.written)

-- ---- the report

-- after the first was read
module _ (s : meaning.Spec) (u : Text) (answer : Result RefSpec Refusal) (ea : answer ≡ parsed 0 u) where
  pub after-accepted : (r : RefSpec) → answer ≡ Ok r → accepted (collision s (spec_meant u r) ∷ []) ≡ report_after s u
  unfolding report_after
  after-accepted r e = rw (read-accepted 0 u answer ea r e)

  pub after-refused : (q : Refusal) (n : ℕ) → answer ≡ Err q → n ≡ number_of q → report_after s u ≡ refused n (some 2)
  unfolding report_after
  after-refused q n e en = rw (read-refused 0 u answer ea q e, en)

-- the whole
module _ (t u : Text) (answer : Result RefSpec Refusal) (ea : answer ≡ parsed 0 t) where
  pub report-accepted : (r : RefSpec) → answer ≡ Ok r → report_after (spec_meant t r) u ≡ collide_bytes t u
  unfolding report_after collide_bytes collide.collide
  report-accepted r e = rw (read-accepted 0 t answer ea r e)

  pub report-refused : (q : Refusal) (n : ℕ) → answer ≡ Err q → n ≡ number_of q → collide_bytes t u ≡ refused n (some 1)
  unfolding collide_bytes collide.collide
  report-refused q n e en = rw (read-refused 0 t answer ea q e, en)
