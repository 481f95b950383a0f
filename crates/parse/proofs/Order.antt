-- All questions on the sides, in their order. Assumes nothing.
use Prim.Native.Nat.{ℕ, zero, suc, ◌<◌}
use native.Mathlib.Omega.{arith}
use mathlib.Core.Path.{◌≡◌, refl}
use mathlib.Core.Bool.{Bool, false}
use Rattle.meaning.specs.Bytes.{Text, ◌and◌}
use Rattle.meaning.specs.Spec.{◌else◌then◌, push, stars_agree, sides_refusal}
use Rattle.refusal.specs.declared.Refusal.{Refusal}
use Rattle.refusal.specs.Numbers.{number_of}
use Rattle.refusal.proofs.Numbers.{number_of-positive}
use Rattle.parse.specs.declared.types.RefSpec.{RefSpec}
use Rattle.parse.specs.Places.{mode_meant, side_meant, is_present, spec_meant}
use Rattle.parse.specs.Questions.{◌or_else◌, shape_refusal, side_refusal, side_name_kind, kinds_agree, negative_refusal}
use Rattle.parse.proofs.Groups.{sides-questions}
use Rattle.parse.proofs.Parts.{present_meant}
use Rattle.parse.proofs.Sides.{side-star}

-- a question that refuses is the answer
pub stop_at : (q : Refusal) (b : ℕ) → (number_of q or_else b) ≡ number_of q
stop_at q b = go (number_of q) (number_of-positive q)
  where
    go : (n : ℕ) → 0 < n → (n or_else b) ≡ n
    go zero h = absurd (omega arith)
    go (suc n) h = refl

-- where none refuses what follows decides
pub go_on : (b : ℕ) → (0 or_else b) ≡ b
go_on b = refl

module _ (op : ℕ) (with_colon : Bool) (t : Text) (r : RefSpec) where
  -- the groups, asked of places
  pub sides_asked : sides_refusal op with_colon (spec_meant t r) ≡ (shape_refusal op with_colon (mode_meant r.mode) (is_present r.src) (is_present r.dst) or_else side_refusal 5 (push op and is_present r.dst) (side_meant t r.src) or_else side_refusal 7 false (side_meant t r.dst) or_else (stars_agree op (spec_meant t r) else 9 then negative_refusal (mode_meant r.mode) (side_meant t r.src)))
  unfolding spec_meant
  sides_asked = rw (sides-questions op with_colon (spec_meant t r), present_meant t r.src, present_meant t r.dst)

-- sides that passed 5 to 8 are patterns where they have stars
pub stars_are : (op : ℕ) (t : Text) (r : RefSpec) (free : Bool) → side_refusal 5 free (side_meant t r.src) ≡ 0 → side_refusal 7 false (side_meant t r.dst) ≡ 0 → kinds_agree op (mode_meant r.mode) (is_present r.dst) (side_name_kind (side_meant t r.src)) (side_name_kind (side_meant t r.dst)) ≡ stars_agree op (spec_meant t r)
unfolding stars_agree spec_meant kinds_agree
stars_are op t r free a b = rw (present_meant t r.dst, ← side-star 4 free (side_meant t r.src) a, ← side-star 6 false (side_meant t r.dst) b)
