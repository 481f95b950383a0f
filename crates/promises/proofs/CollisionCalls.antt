-- What a call for the report tells. Assumes nothing.
use Prim.Native.Nat.{ℕ}
use mathlib.Core.Path.{◌≡◌, refl}
use mathlib.Core.Logic.{◌⊎◌, inl, inr}
use mathlib.Core.List.{[], ◌∷◌}
use mathlib.Core.Option.{Option, none, some}
use Rattle.meaning.specs.Bytes.{Text}
use Rattle.meaning.specs.Spec.{Answer, accepted, refused, Spec, read_spec}
use Rattle.meaning.specs.Collide.{collide, collide_bytes}
use Rattle.promises.specs.Terms.{TwoSpecs, MaybeCall, MetMaybe, TellsBytes, TellsShort}
use Rattle.promises.specs.Collisions.{Reported, yes_with, never}
use Rattle.promises.specs.CollisionCalls.{ToldOf, told_first, told_second, told_no, told_yes, told_short, ReportTold}
use Rattle.promises.proofs.Leaving.{maybe-turned, maybe-alone, maybe-bytes}
use Rattle.promises.proofs.Refusals.{Above, spec-above}
use Rattle.promises.proofs.Collisions.{collides-exactly, questions-in-order}

-- the bytes of a refused report, and of one that is answered
bytes-refused : (t u : Text) (n : ℕ) (k : Option ℕ) → collide t u ≡ refused n k → collide_bytes t u ≡ refused n k
unfolding collide_bytes
bytes-refused t u n k e = rw e

bytes-are : (t u : Text) (o : Option Text) → collide t u ≡ accepted o → collide_bytes t u ≡ accepted (o ∷ [])
unfolding collide_bytes
bytes-are t u o e = rw e

-- two accepted specs
both_told : (t u : Text) (s r : Spec) (c : MaybeCall) → TwoSpecs 0 t u s r → MetMaybe (collide_bytes t u) c → ToldOf t u c
both_told t u s r c h m = go (collides-exactly t u s r h)
  where
    go : Reported t u s r → ToldOf t u c
    go (never e f) = told_no s r h f (maybe-alone c (rw (bytes-are t u none e) at m))
    go (yes_with d e w v) = yes (maybe-bytes d c (rw (bytes-are t u (some d) e) at m))
      where
        yes : TellsBytes d c ⊎ TellsShort d c → ToldOf t u c
        yes (inl y) = told_yes s r d h w v y
        yes (inr y) = told_short s r d h w v y

pub report-told : ReportTold
report-told t u c m = first (read_spec 0 t) refl (spec-above 0 t)
  where
    second : (s : Spec) → read_spec 0 t ≡ accepted s → (b : Answer Spec) → read_spec 0 u ≡ b → Above b → ToldOf t u c
    second s e (accepted r) f h = both_told t u s r c (record { first = e; second = f }) m
    second s e (refused n k) f h = told_second s n k h e f (maybe-turned n (some 2) c (rw (bytes-refused t u n (some 2) (questions-in-order.second-refused t u s n k e f)) at m))

    first : (a : Answer Spec) → read_spec 0 t ≡ a → Above a → ToldOf t u c
    first (accepted s) e h = second s e (read_spec 0 u) refl (spec-above 0 u)
    first (refused n k) e h = told_first n k h e (maybe-turned n (some 1) c (rw (bytes-refused t u n (some 1) (questions-in-order.first-refused t u n k e)) at m))
