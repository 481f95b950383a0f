-- What an answer of reading tells: the places of an accepted spec, its size and its meaning. Assumes nothing.
use Prim.Native.Nat.{ℕ, zero, suc, ◌≤◌}
use native.Mathlib.Omega.{arith}
use Rattle.std.specs.Prelude.{Result, Ok, Err}
use mathlib.Core.Path.{◌≡◌, refl, sym, ap, ◌∙◌}
use mathlib.Core.Option.{none}
use lib.ListN.{length}
use Rattle.meaning.specs.Bytes.{Text}
use Rattle.meaning.specs.Limits.{spec_bytes}
use Rattle.meaning.specs.Spec as meaning
use Rattle.promises.proofs.Accepted.{read-passed}
use Rattle.parse.specs.declared.types.RefSpec.{RefSpec}
use Rattle.refusal.specs.declared.Refusal.{Refusal}
use Rattle.refusal.specs.Numbers.{number_of, question}
use Rattle.refusal.proofs.Numbers.{number_of-question}
use Rattle.parse.specs.Places.{SidesWithin, spec_meant, places_of, parsed_unless, parsed, parsed_meant}
use Rattle.parse.proofs.Places.{sides-within, spec_refusal-most, parsed-meant}

-- an answer that accepts holds the places that were read
accepted-places : (n : ℕ) (p r : RefSpec) → parsed_unless n p ≡ Ok r → p ≡ r
accepted-places zero p r e = cc
accepted-places (suc n) p r e = absurd cc

module _ (op : ℕ) (t : Text) (p : Result RefSpec Refusal) (ep : p ≡ parsed op t) where
  -- its number is that of the question that refuses
  pub refused-number : (q : Refusal) → p ≡ Err q → meaning.spec_refusal op t ≡ number_of q
  unfolding parsed
  refused-number q e = go (meaning.spec_refusal op t) (spec_refusal-most op t) (sym ep ∙ e)
    where
      go : (n : ℕ) → n ≤ 18 → parsed_unless n (places_of op t) ≡ Err q → n ≡ number_of q
      go zero h f = absurd cc
      go (suc n) h f = let g : question (suc n) ≡ q = cc in sym (number_of-question (suc n) (omega arith) h) ∙ ap number_of g

  -- what a refusal means
  pub read-refused : (q : Refusal) → p ≡ Err q → meaning.read_spec op t ≡ meaning.refused (number_of q) none
  read-refused q e = sym (parsed-meant op t) ∙ ap (parsed_meant t) (sym ep ∙ e)

  module _ (r : RefSpec) (e : p ≡ Ok r) where
    -- what an accepted spec means
    pub read-accepted : meaning.read_spec op t ≡ meaning.accepted (spec_meant t r)
    read-accepted = sym (parsed-meant op t) ∙ ap (parsed_meant t) (sym ep ∙ e)

    -- no question refuses it
    pub accepted-number : meaning.spec_refusal op t ≡ 0
    unfolding parsed
    accepted-number = go (meaning.spec_refusal op t) (sym ep ∙ e)
      where
        go : (n : ℕ) → parsed_unless n (places_of op t) ≡ Ok r → n ≡ 0
        go zero f = refl
        go (suc n) f = absurd cc

    -- it has the places of its sides
    pub read-places : places_of op t ≡ r
    unfolding parsed
    read-places = accepted-places (meaning.spec_refusal op t) (places_of op t) r (sym ep ∙ e)

    -- its sides stand within it
    pub read-within : SidesWithin (length t) r
    read-within = rw (sym read-places) (sides-within op t)

    -- and it is not longer than a spec may be
    pub read-size : length t ≤ spec_bytes
    read-size = (read-passed op t (spec_meant t r) read-accepted).size
