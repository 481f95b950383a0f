-- The sign of a spec, the places of its sides, and the split at the last colon: the branches of split.rt against the definitions.
-- Assumes nothing.
use Prim.Native.Nat.{ℕ, suc, ◌+◌, ◌-◌, ◌≤◌, ◌<◌}
use native.Mathlib.Nat.{suc-ne-zero}
use native.Mathlib.Omega.{arith}
use mathlib.Core.Path.{◌≡◌, refl, sym, ap, ◌∙◌}
use mathlib.Core.Bool.{cond, true, false}
use mathlib.Core.List.{[], ◌∷◌}
use lib.Seq.{drop-drop}
use lib.ListN.{length, get_or, take, drop, length-take, length-drop}
use Rattle.meaning.specs.Bytes.{Text, bytes, colon, same}
use Rattle.meaning.specs.Spec.{Mode, mode_of_byte, mode_of, unsigned, Sides, one, two, sides_of, has_colon}
use Rattle.text.proofs.Rests.{rest_part}
use Rattle.text.proofs.Sides.{sides-one, sides-two}
use Rattle.text.specs.Last.{past_last}
use Rattle.parse.specs.declared.types.Mode as code
use Rattle.parse.specs.declared.types.Mode.TheVariants.{Normal, Force, Negative}
use Rattle.parse.specs.declared.types.Side.{Side}
use Rattle.parse.specs.declared.types.Side.TheVariants.{Absent, Part, Head}
use Rattle.parse.specs.declared.types.RefSpec.{RefSpec}
use Rattle.parse.specs.Places.{mode_meant, mode_case, part_at, sign_length, placed, supplied_place, named_place, source_place, places_at, places_of}
use Rattle.parse.proofs.Parts.{part_length, part_of}
use Rattle.parse.proofs.Places.{mode-meant, unsigned-drop, sign-within}

-- ---- the sign

-- the first byte decides
pub mode_first : (t : Text) → 1 ≤ length t → mode_of t ≡ mode_of_byte (get_or t 0 0)
mode_first [] h = absurd (omega arith)
mode_first (x ∷ t) h = refl

-- the mode that a case means has that case
case-meant : (m : code.Mode) → mode_case (mode_meant m) ≡ m
case-meant Normal = refl
case-meant Force = refl
case-meant Negative = refl

-- ---- places

-- a side without bytes is absent
placed-empty : (at : ℕ) (l : Text) → length l ≡ 0 → Absent ≡ placed at l
placed-empty at [] e = refl
placed-empty at (x ∷ l) e = absurd (suc-ne-zero (length l) e)

-- a side with a byte has its place
placed-part : (at : ℕ) (l : Text) → (length l ≡ 0 → ⊥) → Part at (length l) ≡ placed at l
placed-part at [] n = absurd (n refl)
placed-part at (x ∷ l) n = refl

module _ (t : Text) (at : ℕ) where
  -- no byte from the place on: the destination is absent
  pub destination_none : length t - at ≡ 0 → placed at (drop at t) ≡ Absent
  destination_none e = sym (placed-empty at (drop at t) (length-drop at t ∙ e))

  -- a byte from the place on: the destination takes all of them
  pub destination_some : (length t - at ≡ 0 → ⊥) → placed at (drop at t) ≡ Part at (length t - at)
  destination_some n = rw (← length-drop at t) (sym (placed-part at (drop at t) (λ e. n (sym (length-drop at t) ∙ e))))

-- a source with a byte is named, and not supplied
source-place-some : (op : ℕ) (m : Mode) (at : ℕ) (l : Text) → (length l ≡ 0 → ⊥) → source_place op m at l ≡ named_place at l
source-place-some op m at [] n = absurd (n refl)
source-place-some op m at (x ∷ l) n = refl

module _ (op : ℕ) (m : Mode) (t : Text) (at n : ℕ) where
  -- a source without bytes is what is supplied
  pub source_none : n ≡ 0 → source_place op m at (part_at t at n) ≡ supplied_place op m
  source_none e = rw e

  -- any other is named: `@` is the supplied `HEAD`
  pub source_some : (n ≡ 0 → ⊥) → at + n ≤ length t → source_place op m at (part_at t at n) ≡ cond (same (take (at + n - at) (drop at t)) (bytes "@")) Head (Part at n)
  unfolding named_place
  source_some some fits = rw (part_of t at n, source-place-some op m at (part_at t at n) (λ e. some (sym (part_length t at n fits) ∙ e)), part_length t at n fits)

-- ---- the split

-- one side: there is no destination
pub one-side-is : (op : ℕ) (m : code.Mode) (t : Text) (at : ℕ) (src : Side) → src ≡ source_place op (mode_meant m) at (part_at t at (length t - at)) → ◌≡◌ {A = RefSpec} (record { mode = m; src = src; dst = Absent }) (places_at op (mode_meant m) at (one (drop at t)))
unfolding places_at
one-side-is op m t at src e = rw (case-meant m, ← rest_part t at, e)

-- two sides: the destination begins after the colon
pub two-sides-is : (op : ℕ) (m : code.Mode) (t : Text) (at past : ℕ) (src dst : Side) → 0 < past → at + past ≤ length t → src ≡ source_place op (mode_meant m) at (part_at t at (past - 1)) → dst ≡ placed (at + past) (drop (at + past) t) → ◌≡◌ {A = RefSpec} (record { mode = m; src = src; dst = dst }) (places_at op (mode_meant m) at (two (take (past - 1) (drop at t)) (drop past (drop at t))))
unfolding places_at
two-sides-is op m t at past src dst h fits e f =
    let n : suc (at + length (take (past - 1) (drop at t))) ≡ at + past = simp (length-take, length-drop) (omega arith) in
    rw (case-meant m, n, drop-drop past at t, ← e, ← f)

-- the sign taken off: what follows it begins at its length
module _ (op : ℕ) (t : Text) (m : code.Mode) (at past : ℕ) (em : m ≡ mode_case (mode_of t)) (ea : at ≡ sign_length (mode_meant m)) where
  -- the mode that was read is the text's
  mode-is : mode_meant m ≡ mode_of t
  mode-is = ap mode_meant em ∙ mode-meant (mode_of t)

  -- its sign takes as many bytes as the text's
  at-is : at ≡ sign_length (mode_of t)
  at-is = ea ∙ ap sign_length mode-is

  -- they stand within the text
  pub sign_fits : at ≤ length t
  sign_fits = rw at-is (sign-within t)

  -- and so does what ends with the last colon
  pub split-fits : past ≤ length (take (length t - at) (drop at t)) → at + past ≤ length t
  split-fits h = let g : past ≤ length t - at = rw (rest_part, length-drop) at h in omega (arith, sign_fits)

  -- the text without its sign is what follows the sign
  rest-is : unsigned t ≡ drop at t
  rest-is = unsigned-drop t ∙ ap (λ (k : ℕ). drop k t) (sym at-is)

  module _ (ep : past ≡ past_last 58 (take (length t - at) (drop at t))) where
    -- what was searched for a colon is what follows the sign
    past_is : past ≡ past_last colon (drop at t)
    past_is = ep ∙ ap (past_last 58) (rest_part t at)

    module _ (d : Sides) (split : sides_of (drop at t) ≡ d) where
      -- the places of these sides are the spec's
      places-are : places_at op (mode_meant m) at d ≡ places_of op t
      unfolding places_of
      places-are = rw (rest-is, split, ← at-is, ← mode-is)

      -- and a colon stands between these if between the spec's
      colon-is : has_colon d ≡ has_colon (sides_of (unsigned t))
      colon-is = rw (rest-is, split)

    -- with no colon found the one side gives the spec's places
    pub split_one : (r : RefSpec) → past ≡ 0 → r ≡ places_at op (mode_meant m) at (one (drop at t)) → r ≡ places_of op t
    split_one r z h = h ∙ places-are (one (drop at t)) (sides-one (drop at t) past past_is z)

    -- and the spec has no colon
    pub no-colon : past ≡ 0 → false ≡ has_colon (sides_of (unsigned t))
    no-colon z = colon-is (one (drop at t)) (sides-one (drop at t) past past_is z)

    -- with the last colon found the two sides give the spec's places
    pub split-two : (r : RefSpec) → (past ≡ 0 → ⊥) → r ≡ places_at op (mode_meant m) at (two (take (past - 1) (drop at t)) (drop past (drop at t))) → r ≡ places_of op t
    split-two r n h = h ∙ places-are (two (take (past - 1) (drop at t)) (drop past (drop at t))) (sides-two (drop at t) past past_is (omega arith))

    -- and the spec has a colon
    pub a-colon : (past ≡ 0 → ⊥) → true ≡ has_colon (sides_of (unsigned t))
    a-colon n = colon-is (two (take (past - 1) (drop at t)) (drop past (drop at t))) (sides-two (drop at t) past past_is (omega arith))
