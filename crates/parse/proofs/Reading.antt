-- Reading itself: a refusal of the questions at entry, then one of those on the sides, else the places of the split. Assumes nothing.
use Prim.Native.Nat.{ℕ, zero, suc}
use mathlib.Core.Path.{◌≡◌, refl, sym, ap, ◌∙◌}
use native.Mathlib.Omega.{arith}
use Rattle.std.specs.Prelude.{Result, Ok, Err}
use Rattle.meaning.specs.Bytes.{Text}
use Rattle.meaning.specs.Spec.{unsigned, sides_of, has_colon, sides_refusal, read_spec}
use Rattle.refusal.specs.declared.Refusal.{Refusal}
use Rattle.refusal.specs.Numbers.{number_of, question}
use Rattle.refusal.proofs.Numbers.{number_of-positive, question-number_of}
use Rattle.parse.specs.declared.types.RefSpec.{RefSpec}
use Rattle.parse.specs.Places.{spec_meant, places_of, parsed_unless, parsed, parsed_meant}
use Rattle.parse.specs.Questions.{◌or_else◌, entry_refusal}
use Rattle.parse.proofs.Groups.{spec-questions}
use Rattle.parse.proofs.Order.{stop_at, go_on}
use Rattle.parse.proofs.Places.{places-meant, parsed-meant}

-- the question that refuses is the answer
pub refused_is : (q : Refusal) (r : RefSpec) → parsed_unless (number_of q) r ≡ Err q
refused_is q r = go (number_of q) refl
  where
    go : (n : ℕ) → number_of q ≡ n → parsed_unless n r ≡ Err q
    go zero e = absurd (omega (arith, number_of-positive q))
    go (suc n) e = ap Err (ap question (sym e) ∙ question-number_of q)

-- where none refuses the places are
pub accepted_is : (r : RefSpec) → parsed_unless 0 r ≡ Ok r
accepted_is r = refl

-- the questions at entry, then those on the sides
pub parsed_by : (op : ℕ) (t : Text) → parsed op t ≡ parsed_unless (entry_refusal op t or_else sides_refusal op (has_colon (sides_of (unsigned t))) (spec_meant t (places_of op t))) (places_of op t)
unfolding parsed
parsed_by op t = rw (spec-questions op t, places-meant op t)

-- the questions in their order
pub ruleset reading = (stop_at, go_on, refused_is, accepted_is, parsed_by)

-- what is answered means what the meaning reads
pub answered : (op : ℕ) (t : Text) (r : Result RefSpec Refusal) → r ≡ parsed op t → (r ≡ parsed op t) × (parsed_meant t r ≡ read_spec op t)
answered op t r e = (e, rw e (parsed-meant op t))
