-- Why the cases that the crate's `instruction` calls unreachable cannot be: what the places of an accepted spec are. Assumes nothing.
use Prim.Native.Nat.{ℕ, suc, ◌+◌}
use Rattle.std.specs.Prelude.{Ok}
use mathlib.Core.Path.{◌≡◌, refl, sym, ap, ◌∙◌}
use mathlib.Core.Bool.{true}
use mathlib.Core.List.{[], ◌∷◌}
use mathlib.Core.Option.{none}
use lib.ListN.{length}
use Rattle.meaning.specs.Bytes.{Text}
use Rattle.meaning.specs.Spec.{is_negative, mode_of, unsigned, sides_of, left, right}
use Rattle.promises.specs.Accepted.{AcceptedSpec}
use Rattle.promises.proofs.Accepted.{read-is-accepted}
use Rattle.parse.specs.declared.types.Side.{Side}
use Rattle.parse.specs.declared.types.Side.TheVariants.{Absent, Part, Head}
use Rattle.parse.specs.declared.types.RefSpec.{RefSpec}
use Rattle.parse.specs.Places.{mode_meant, side_meant, is_present, spec_meant, sign_length, placed, places_at, places_of, parsed}
use Rattle.parse.proofs.Parts.{present_meant}
use Rattle.parse.proofs.Answers.{read-accepted, read-places}

-- a side that denotes no text is absent
absent-meant : (t : Text) (side : Side) → side_meant t side ≡ none → side ≡ Absent
absent-meant t Absent e = refl
absent-meant t (Part at n) e = absurd cc
absent-meant t Head e = absurd cc

-- a side's own place is never the supplied `HEAD`
placed-not-head : (at : ℕ) (l : Text) → placed at l ≡ Head → ⊥
placed-not-head at [] e = cc
placed-not-head at (x ∷ l) e = cc

module _ (op : ℕ) (t : Text) (r : RefSpec) (e : parsed op t ≡ Ok r) where
  -- what every accepted spec is
  accepted-so : AcceptedSpec op (spec_meant t r)
  accepted-so = read-is-accepted op t (spec_meant t r) (read-accepted op t (parsed op t) refl r e)

  -- a fetch has a source
  pub fetch-has-source : op ≡ 0 → is_present r.src ≡ true
  unfolding spec_meant
  fetch-has-source z = sym (present_meant t r.src) ∙ accepted-so.fetch-source (rw z)

  module _ (negative : is_negative (mode_meant r.mode) ≡ true) where
    -- a negative spec has a source
    pub negative-has-source : is_present r.src ≡ true
    unfolding spec_meant
    negative-has-source = sym (present_meant t r.src) ∙ accepted-so.negative-source negative

    -- and no destination
    pub negative-stands-alone : r.dst ≡ Absent
    unfolding spec_meant
    negative-stands-alone = absent-meant t r.dst (accepted-so.negative-alone negative)

  -- `HEAD` is supplied to no destination
  pub destination-not-supplied : r.dst ≡ Head → ⊥
  unfolding places_of places_at
  destination-not-supplied h =
      placed-not-head (suc (sign_length (mode_of t) + length (left (sides_of (unsigned t))))) (right (sides_of (unsigned t)))
      (ap (λ (p : RefSpec). p.dst) (read-places op t (parsed op t) refl r e) ∙ h)
