-- The ends of a name in reverse, by the arms of the code, and that they mean where the name comes from. Assumes nothing.
use Prim.Native.Nat.{ℕ, suc, ◌+◌, ◌≤◌}
use mathlib.Core.Path.{◌≡◌, refl, sym, ap, ◌∙◌, subst}
use mathlib.Core.Bool.{Bool, true, false, cond}
use Rattle.std.specs.Prelude as prelude
use mathlib.Core.Logic.{◌⊎◌, inl, inr}
use mathlib.Core.Option.{Option, none, some, map}
use lib.ListN.{length, take, drop}
use Rattle.meaning.specs.Bytes.{Text, bytes, or_empty, ◌or◌, same, begins, object_id}
use Rattle.meaning.specs.Spec.{Spec, is_negative}
use Rattle.meaning.specs.Match as meaning
use Rattle.meaning.specs.Match.{Form, literal, pattern, form_of, capture, plain_needle, form_needle, needle_of, reverse_sides, reverse}
use Rattle.meaning.specs.Listing.{reverse_ends}
use Rattle.glob.specs.declared.Captured.{Captured}
use Rattle.glob.specs.Captures.{capture_meant, CaptureWithin}
use Rattle.parse.specs.declared.types.Side.{Side}
use Rattle.parse.specs.Places.{part_at, Within}
use Rattle.refspec.specs.Instructions.{side_text}
use Rattle.matcher.specs.declared.types.Needle.{Needle}
use Rattle.matcher.specs.declared.types.Needle.TheVariants as needle
use Rattle.matcher.specs.declared.types.Lead.{Lead}
use Rattle.matcher.specs.declared.types.Target.{Target}
use Rattle.matcher.specs.declared.types.Target.TheVariants as target
use Rattle.matcher.specs.declared.types.Matcher.{Matcher}
use Rattle.matcher.specs.declared.types.RowText.{RowText}
use Rattle.matcher.specs.declared.types.RowText.TheVariants as row-text
use Rattle.matcher.specs.declared.types.Ends.{Ends}
use Rattle.matcher.specs.Matching.{ends_meant, needle_meant, target_meant, StarIn, NeedleWithin, Matches}
use Rattle.match_one.specs.Answers.{row_of, spelt_ends, filled_place, whole_hit, source_place, reverse_made, needle_form, reverse_forms, back_ends, AnswersBack}
use Rattle.match_one.proofs.Fills.{filled-meant, filled_within}

-- a source without a star is a literal
literal-needle : (t : Text) (lhs : Needle) → (lhs ≡ needle.FullName) ⊎ ((lhs ≡ needle.Object) ⊎ (lhs ≡ needle.PartialName)) → needle_form t lhs ≡ some (literal t)
literal-needle t lhs (inl e) = rw e
literal-needle t lhs (inr (inl e)) = rw e
literal-needle t lhs (inr (inr e)) = rw e

module _ (specs name : Text) (src dst : Side) (lhs : Needle) (rhs : Target) where
  -- no source
  pub back-absent : lhs ≡ needle.Absent → AnswersBack specs name (reverse_forms (needle_form (side_text specs src) lhs) (target_meant (side_text specs dst) rhs) name) prelude.None
  back-absent is = rw is (record { meant = refl; within = tt })

  -- a source with a star
  module _ (star : ℕ) (is : lhs ≡ needle.Glob star) where
    pub no-pattern : ((k : ℕ) → rhs ≡ target.Pattern k → ⊥) → AnswersBack specs name (reverse_forms (needle_form (side_text specs src) lhs) (target_meant (side_text specs dst) rhs) name) prelude.None
    no-pattern d = rw is (go rhs d)
      where
        go : (r : Target) → ((k : ℕ) → r ≡ target.Pattern k → ⊥) → AnswersBack specs name (reverse_forms (needle_form (side_text specs src) (needle.Glob star)) (target_meant (side_text specs dst) r) name) prelude.None
        go target.Absent d = record { meant = refl; within = tt }
        go (target.Pattern k) d = absurd (d k refl)
        go (target.Literal l) d = record { meant = refl; within = tt }

    module _ (second : ℕ) (of : rhs ≡ target.Pattern second) (g : prelude.Option Captured) (eg : capture_meant name g ≡ capture (take second (side_text specs dst)) (drop (suc second) (side_text specs dst)) name) where
      -- no capture
      pub both-none : g ≡ prelude.None → (r : prelude.Option Ends) → r ≡ prelude.None → AnswersBack specs name (reverse_forms (needle_form (side_text specs src) lhs) (target_meant (side_text specs dst) rhs) name) r
      both-none e r er =
          let z : capture (take second (side_text specs dst)) (drop (suc second) (side_text specs dst)) name ≡ none = sym (rw e at eg) in
          rw (is, of, er) (record { meant = rw z; within = tt })

      -- one
      pub both-part : (x : Captured) (t : RowText) → g ≡ prelude.Some x → CaptureWithin (length name) g → Within (length specs) src → NeedleWithin src lhs → t ≡ filled_place src star x.from x.len
          → AnswersBack specs name (reverse_forms (needle_form (side_text specs src) lhs) (target_meant (side_text specs dst) rhs) name) (row_of t row-text.Name)
      both-part x t e l w h er =
          let z : capture (take second (side_text specs dst)) (drop (suc second) (side_text specs dst)) name ≡ some (part_at name x.from x.len) = sym (rw e at eg) in
          let f : x.from + x.len ≤ length name = rw e at l in
          let i : StarIn star src = rw is at h in
          rw (is, of)
          (record {
            meant = rw (er, z) (ap (λ (o : Option Text). some (record { source = or_empty o; destination = some name })) (filled-meant specs name src star x.from x.len w i));
            within = rw er (filled_within (length specs) (length name) src star x.from x.len w i f, tt);
          })

  -- a literal source
  module _ (is : (lhs ≡ needle.FullName) ⊎ ((lhs ≡ needle.Object) ⊎ (lhs ≡ needle.PartialName))) where
    pub no-literal : ((l : Lead) → rhs ≡ target.Literal l → ⊥) → AnswersBack specs name (reverse_forms (needle_form (side_text specs src) lhs) (target_meant (side_text specs dst) rhs) name) prelude.None
    no-literal d = rw (literal-needle (side_text specs src) lhs is) (go rhs d)
      where
        go : (r : Target) → ((l : Lead) → r ≡ target.Literal l → ⊥) → AnswersBack specs name (reverse_forms (some (literal (side_text specs src))) (target_meant (side_text specs dst) r) name) prelude.None
        go target.Absent d = record { meant = refl; within = tt }
        go (target.Pattern k) d = record { meant = refl; within = tt }
        go (target.Literal l) d = absurd (d l refl)

    module _ (l : Lead) (of : rhs ≡ target.Literal l) (u : Text) (eu : u ≡ side_text specs dst) (b : Bool) (eb : b ≡ same u name) where
      is_same : b ≡ same (side_text specs dst) name
      is_same = rw eu at eb

      -- the name is the destination
      pub same-is-back : b ≡ true → Within (length specs) src → (r : Ends) → r ≡ spelt_ends src
          → AnswersBack specs name (reverse_forms (needle_form (side_text specs src) lhs) (target_meant (side_text specs dst) rhs) name) (prelude.Some r)
      same-is-back e w r er = rw (literal-needle (side_text specs src) lhs is, of, er) (record { meant = rw (sym is_same ∙ e); within = (w, tt) })

      -- it is not
      pub same-not-back : b ≡ false → AnswersBack specs name (reverse_forms (needle_form (side_text specs src) lhs) (target_meant (side_text specs dst) rhs) name) prelude.None
      same-not-back e = rw (literal-needle (side_text specs src) lhs is, of) (record { meant = rw (sym is_same ∙ e); within = tt })

-- what was caught decides which ends the matcher makes
module _ (specs name : Text) (m : Matcher) (w : Within (length specs) m.src) where
  abbrev comes : prelude.Option Ends → Type 0
  comes r = AnswersBack specs name (reverse_forms (needle_form (side_text specs m.src) m.lhs) (target_meant (side_text specs m.dst) m.rhs) name) r

  pub both-hit : (star : ℕ) → m.lhs ≡ needle.Glob star → (second : ℕ) → m.rhs ≡ target.Pattern second → (g : prelude.Option Captured)
      → capture_meant name g ≡ capture (take second (side_text specs m.dst)) (drop (suc second) (side_text specs m.dst)) name → CaptureWithin (length name) g → NeedleWithin m.src m.lhs
      → AnswersBack specs name (reverse_forms (needle_form (side_text specs m.src) m.lhs) (target_meant (side_text specs m.dst) m.rhs) name) (reverse_made m g)
  both-hit star is second of prelude.None eg l h = both-none specs name m.src m.dst m.lhs m.rhs star is second of prelude.None eg refl prelude.None refl
  both-hit star is second of (prelude.Some x) eg l h =
      let z : reverse_made m (prelude.Some x) ≡ row_of (filled_place m.src star x.from x.len) row-text.Name = rw is in
      subst comes (sym z) (both-part specs name m.src m.dst m.lhs m.rhs star is second of (prelude.Some x) eg x (filled_place m.src star x.from x.len) refl l w h refl)

  spelt : (lhs : Needle) (c : Captured) → (lhs ≡ needle.FullName) ⊎ ((lhs ≡ needle.Object) ⊎ (lhs ≡ needle.PartialName)) → prelude.Some (record { source = source_place m.src lhs c; destination = row-text.Name }) ≡ prelude.Some (spelt_ends m.src)
  spelt lhs c (inl e) = rw e
  spelt lhs c (inr (inl e)) = rw e
  spelt lhs c (inr (inr e)) = rw e

  pub same-hit : (is : (m.lhs ≡ needle.FullName) ⊎ ((m.lhs ≡ needle.Object) ⊎ (m.lhs ≡ needle.PartialName))) (l : Lead) (of : m.rhs ≡ target.Literal l) (u : Text) (eu : u ≡ side_text specs m.dst) (b : Bool) (eb : b ≡ same u name) (g : prelude.Option Captured) → g ≡ whole_hit b
      → AnswersBack specs name (reverse_forms (needle_form (side_text specs m.src) m.lhs) (target_meant (side_text specs m.dst) m.rhs) name) (reverse_made m g)
  same-hit is l of u eu b eb g eg = go b refl
    where
      go : (t : Bool) → b ≡ t → comes (reverse_made m g)
      go true e =
          let z : reverse_made m g ≡ prelude.Some (spelt_ends m.src) = ap (reverse_made m) (eg ∙ ap whole_hit e) ∙ spelt m.lhs (record { from = 0; len = 0 }) is in
          subst comes (sym z) (same-is-back specs name m.src m.dst m.lhs m.rhs is l of u eu b eb e w (spelt_ends m.src) refl)
      go false e =
          let z : reverse_made m g ≡ prelude.None = ap (reverse_made m) (eg ∙ ap whole_hit e) in
          subst comes (sym z) (same-not-back specs name m.src m.dst m.lhs m.rhs is l of u eu b eb e)

-- ---- the spec

-- the form that a needle was made of
abbrev form_in : meaning.Needle → Form
form_in (meaning.star_needle a b) = pattern a b
form_in (meaning.full t) = literal t
form_in (meaning.object t) = literal t
form_in (meaning.partial t) = literal t

needle-form : (t : Text) (lhs : Needle) → needle_form t lhs ≡ map form_in (needle_meant t lhs)
needle-form t needle.Absent = refl
needle-form t (needle.Glob star) = refl
needle-form t needle.FullName = refl
needle-form t needle.Object = refl
needle-form t needle.PartialName = refl

plain_form : (negative : Bool) (t : Text) → form_in (plain_needle negative t) ≡ literal t
unfolding plain_needle
plain_form negative t = go (negative or begins (bytes "refs/") t) (object_id t)
  where
    go : (a b : Bool) → form_in (cond a (meaning.full t) (cond b (meaning.object t) (meaning.partial t))) ≡ literal t
    go true b = refl
    go false true = refl
    go false false = refl

form-form : (negative : Bool) (f : Form) → form_in (form_needle negative f) ≡ f
form-form negative (pattern a b) = refl
form-form negative (literal t) = plain_form negative t

option-form : (negative : Bool) (o : Option Text) → map form_in (map (needle_of negative) o) ≡ map form_of o
unfolding needle_of
option-form negative none = refl
option-form negative (some t) = ap some (form-form negative (form_of t))

sides-forms : (src dst : Option Text) (name : Text) → reverse_forms (map form_of src) (map form_of dst) name ≡ reverse_sides src dst name
sides-forms none dst name = refl
sides-forms (some s) none name = refl
sides-forms (some s) (some d) name = refl

-- the ends mean where the name comes from under the matcher's spec
pub back-told : (specs name : Text) (m : Matcher) (r : prelude.Option Ends) → AnswersBack specs name (reverse_forms (needle_form (side_text specs m.src) m.lhs) (target_meant (side_text specs m.dst) m.rhs) name) r
    → (s : Spec) → Matches specs s m → ends_meant specs name r ≡ reverse_ends s name
unfolding reverse_ends reverse
back-told specs name m r a s h =
    let l : needle_form (side_text specs m.src) m.lhs ≡ map form_of s.source =
    needle-form (side_text specs m.src) m.lhs ∙ ap (map form_in) h.lhs-is ∙ option-form (is_negative s.mode) s.source in
    let u : reverse_forms (needle_form (side_text specs m.src) m.lhs) (target_meant (side_text specs m.dst) m.rhs) name ≡ reverse_sides s.source s.destination name =
    rw (l, h.rhs-is) (sides-forms s.source s.destination name) in
    a.meant ∙ ap (back_ends name) u

-- so the ends are told in both ways
pub back-both : (specs name : Text) (m : Matcher) (r : prelude.Option Ends) → AnswersBack specs name (reverse_forms (needle_form (side_text specs m.src) m.lhs) (target_meant (side_text specs m.dst) m.rhs) name) r
    → AnswersBack specs name (reverse_forms (needle_form (side_text specs m.src) m.lhs) (target_meant (side_text specs m.dst) m.rhs) name) r × ((s : Spec) → Matches specs s m → ends_meant specs name r ≡ reverse_ends s name)
back-both specs name m r a = (a, λ s h. back-told specs name m r a s h)
