-- What two targets share, by the branches of the code. Assumes nothing.
use Prim.Native.Nat.{ℕ, suc, ◌+◌, ◌-◌}
use native.Mathlib.Numerals.{add-one}
use mathlib.Core.Path.{◌≡◌, refl, sym, ap, ◌∙◌}
use mathlib.Core.Bool.{Bool, true, false}
use mathlib.Core.List.{◌++◌}
use mathlib.Core.Option.{Option, none, some}
use lib.ListN.{length, take, drop}
use Rattle.meaning.specs.Bytes.{Text, begins, ends}
use Rattle.meaning.specs.Match.{Form, literal, pattern}
use Rattle.meaning.specs.Collide.{longer_start, longer_end, followed_by, shared_by}
use Rattle.text.proofs.Rests.{rest_part}
use Rattle.matcher.specs.declared.types.Target.{Target}
use Rattle.matcher.specs.declared.types.Target.TheVariants as target
use Rattle.collide.specs.Targets.{form_written}

-- ---- two patterns

-- the ends
module _ (s b d : Text) (r : Bool) (e : r ≡ ends b d) where
  pub end-second : r ≡ true → some (s ++ d) ≡ followed_by (some s) (longer_end b d)
  unfolding longer_end
  end-second h = rw (sym e ∙ h)

  module _ (n : r ≡ false) (v : Bool) (k : v ≡ ends d b) where
    pub end-first : v ≡ true → some (s ++ b) ≡ followed_by (some s) (longer_end b d)
    unfolding longer_end
    end-first h = rw (sym e ∙ n, sym k ∙ h)

    pub end-neither : v ≡ false → none ≡ followed_by (some s) (longer_end b d)
    unfolding longer_end
    end-neither h = rw (sym e ∙ n, sym k ∙ h)

-- the starts
module _ (a c : Text) (o : Option Text) (r : Bool) (e : r ≡ begins a c) where
  pub start-second : r ≡ true → followed_by (some c) o ≡ followed_by (longer_start a c) o
  unfolding longer_start
  start-second h = rw (sym e ∙ h)

  module _ (n : r ≡ false) (v : Bool) (k : v ≡ begins c a) where
    pub start_first : v ≡ true → followed_by (some a) o ≡ followed_by (longer_start a c) o
    unfolding longer_start
    start_first h = rw (sym e ∙ n, sym k ∙ h)

    pub start-neither : v ≡ false → none ≡ followed_by (longer_start a c) o
    unfolding longer_start
    start-neither h = rw (sym e ∙ n, sym k ∙ h)

rest-after : (t : Text) (star : ℕ) → take (length t - (star + 1)) (drop (star + 1) t) ≡ drop (suc star) t
rest-after t star = rest_part t (star + 1) ∙ ap (λ (k : ℕ). drop k t) (add-one star)

-- `&t[..i]` and `&t[i + 1..]` are the parts
pub patterns-as : (t : Text) (i : ℕ) (u : Text) (j : ℕ)
    → followed_by (longer_start (take i t) (take j u)) (longer_end (take (length t - (i + 1)) (drop (i + 1) t)) (take (length u - (j + 1)) (drop (j + 1) u)))
    ≡ shared_by (some (pattern (take i t) (drop (suc i) t))) (some (pattern (take j u) (drop (suc j) u)))
patterns-as t i u j = rw (rest-after t i, rest-after u j)

-- ---- two targets of which one is nowhere

-- the first
pub first-absent : (t : Text) (r : Target) → r ≡ target.Absent → (g : Option Form) → none ≡ shared_by (form_written t r) g
first-absent t r e g = rw e

-- the second
pub second-absent : (f : Option Form) (u : Text) (q : Target) → q ≡ target.Absent → none ≡ shared_by f (form_written u q)
second-absent none u q e = refl
second-absent (some (literal a)) u q e = rw e
second-absent (some (pattern a b)) u q e = rw e
