-- A name by its start and its end. Assumes nothing.
use mathlib.Core.Path.{◌≡◌, sym, ap, ◌∙◌}
use mathlib.Core.Bool.{Bool, true, false, not}
use Prim.Native.Nat.{ℕ, suc, ◌+◌, ◌-◌, ◌≤◌, ◌<◌}
use native.Mathlib.Omega.{arith}
use native.Mathlib.Numerals.{add-one}
use borrow.Author.Tests.{not-true, not-false}
use lib.ListN.{length, take, drop, length-take, length-drop, length-append}
use Rattle.meaning.specs.Bytes.{Text, begins, ends, before}
use Rattle.meaning.specs.Match.{capture}
use Rattle.promises.proofs.Captures.{begins-is, ends_is}
use Rattle.text.proofs.Rests.{rest_part}
use Rattle.std.specs.Prelude.{Option, Some, None}
use Rattle.glob.specs.declared.Captured.{Captured}
use Rattle.glob.specs.Captures.{capture_meant, ended_at, captured_at, CaptureWithin}

-- a start is no longer than its name
pub begins-short : (p s : Text) (r : Bool) → not r ≡ false → r ≡ begins p s → length p ≤ length s
begins-short p s r t e = omega (arith, ap length (begins-is p s (sym e ∙ not-false r t)), length-append p (drop (length p) s))

-- an end is no longer than its text
ends-short : (p s : Text) → ends p s ≡ true → length p ≤ length s
ends-short p s e = omega (arith, ap length (ends_is p s e), length-append (take (length s - length p) s) p)

-- what a name has from a place on, and its end
module _ (name : Text) (from : ℕ) (b : Text) (r : Bool) (e : r ≡ ends b (take (length name - from) (drop from name))) where
  asked : r ≡ ends b (drop from name)
  asked = e ∙ ap (ends b) (rest_part name from)

  -- no end, nothing before it
  pub end_none : not r ≡ true → capture_meant name None ≡ before b (drop from name)
  end_none n = let f : ends b (drop from name) ≡ false = sym asked ∙ not-true r n in rw f

  pub end-off : not r ≡ true → None ≡ ended_at name from b
  end-off n = let f : ends b (drop from name) ≡ false = sym asked ∙ not-true r n in rw f

  pub end-at : not r ≡ false → Some (record { from = from; len = length name - from - length b }) ≡ ended_at name from b
  end-at n = let f : ends b (drop from name) ≡ true = sym asked ∙ not-false r n in rw f

  module _ (t : not r ≡ false) (w : from ≤ length name) where
    -- the end stands within what is left
    pub end-within : length b ≤ length name - from
    end-within = omega (arith, ends-short b (drop from name) (sym asked ∙ not-false r t), length-drop from name)

    -- what is left less the end stands before it
    pub end-part : capture_meant name (Some (record { from = from; len = length name - from - length b })) ≡ before b (drop from name)
    end-part = let f : ends b (drop from name) ≡ true = sym asked ∙ not-false r t in rw (f, length-drop from name)

    -- within the name
    pub end-part-within : CaptureWithin (length name) (Some (record { from = from; len = length name - from - length b }))
    end-part-within = omega (arith, end-within)

-- no start, no capture
pub start_none : (a b name : Text) (r : Bool) → r ≡ begins a name → not r ≡ true → capture_meant name None ≡ capture a b name
unfolding capture
start_none a b name r e n = let f : begins a name ≡ false = sym e ∙ not-true r n in rw f

-- after the start the end decides
pub start-after : (a b name : Text) (r : Bool) → r ≡ begins a name → not r ≡ false → (c : Option Captured) → capture_meant name c ≡ before b (drop (length a) name) → capture_meant name c ≡ capture a b name
unfolding capture
start-after a b name r e t c h = let f : begins a name ≡ true = sym e ∙ not-false r t in rw f h

pub start-off : (a b name : Text) (r : Bool) → r ≡ begins a name → not r ≡ true → None ≡ captured_at a b name
unfolding captured_at
start-off a b name r e n = let f : begins a name ≡ false = sym e ∙ not-true r n in rw f

pub start-at : (a b name : Text) (r : Bool) → r ≡ begins a name → not r ≡ false → (c : Option Captured) → c ≡ ended_at name (length a) b → c ≡ captured_at a b name
unfolding captured_at
start-at a b name r e t c h = let f : begins a name ≡ true = sym e ∙ not-false r t in rw f h

-- the two parts of a text beside its star
pub star-at : (t : Text) (star : ℕ) (name : Text) (c : Option Captured) → c ≡ captured_at (take star t) (take (length t - (star + 1)) (drop (star + 1) t)) name → c ≡ captured_at (take star t) (drop (suc star) t) name
star-at t star name c h = rw (rest_part t (star + 1), add-one) at h

pub star-parts : (t : Text) (star : ℕ) (name : Text) (c : Option Captured)
    → capture_meant name c ≡ capture (take star t) (take (length t - (star + 1)) (drop (star + 1) t)) name
    → capture_meant name c ≡ capture (take star t) (drop (suc star) t) name
star-parts t star name c h = rw (rest_part t (star + 1), add-one) at h

-- as many bytes stand before the star
pub star-taken : (t : Text) (star : ℕ) → star < length t → star ≡ length (take star t)
star-taken t star h = omega (arith, length-take star t)
