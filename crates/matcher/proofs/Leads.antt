-- A text that is led is what leads and the bytes that are led, which are as many as the text has. Assumes nothing.
use Prim.Native.Nat.{suc, ◌≤◌}
use native.Mathlib.Omega.{arith}
use mathlib.Core.Path.{◌≡◌, refl, ap}
use mathlib.Core.List.{[], ◌∷◌, ◌++◌}
use lib.ListN.{length}
use Rattle.meaning.specs.Bytes.{Text, lower}
use Rattle.matcher.specs.declared.types.Lead.{Lead}
use Rattle.matcher.specs.declared.types.Lead.TheVariants as lead
use Rattle.matcher.specs.Matching.{led_text, lead_bytes, body_bytes}

pub led-pieces : (l : Lead) (t : Text) → lead_bytes l ++ body_bytes l t ≡ led_text l t
led-pieces lead.AsIs t = refl
led-pieces lead.Refs t = refl
led-pieces lead.Heads t = refl
led-pieces lead.HeadsDigits t = refl
led-pieces lead.Digits t = refl

lower-length : (t : Text) → length (lower t) ≡ length t
lower-length [] = refl
lower-length (x ∷ t) = ap suc (lower-length t)

pub body-length : (l : Lead) (t : Text) → length (body_bytes l t) ≡ length t
body-length lead.AsIs t = refl
body-length lead.Refs t = refl
body-length lead.Heads t = refl
body-length lead.HeadsDigits t = lower-length t
body-length lead.Digits t = lower-length t

-- few bytes lead
pub lead-short : (l : Lead) → length (lead_bytes l) ≤ 11
lead-short lead.AsIs = omega arith
lead-short lead.Refs = omega arith
lead-short lead.Heads = omega arith
lead-short lead.HeadsDigits = omega arith
lead-short lead.Digits = omega arith
