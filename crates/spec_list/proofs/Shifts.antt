-- Places in a text that stands in a list, as places in the list: they denote the same. Assumes nothing.
use mathlib.Core.Path.{◌≡◌, refl, ap, ◌∙◌}
use mathlib.Core.List.{[], ◌∷◌}
use mathlib.Core.Option.{some}
use Prim.Native.Nat.{ℕ, zero, suc, ◌+◌, ◌≤◌}
use native.Mathlib.Omega.{arith}
use mir.Val.{Fits}
use mir.Syntax.{w64}
use lib.ListN.{take, drop}
use lib.Seq.{drop-drop, take-take}
use Rattle.meaning.specs.Bytes.{Text}
use Rattle.meaning.specs.Limits.{spec_list_bytes}
use Rattle.parse.specs.declared.types.Side.{Side}
use Rattle.parse.specs.declared.types.Side.TheVariants.{Absent, Part, Head}
use Rattle.parse.specs.declared.types.RefSpec.{RefSpec}
use Rattle.parse.specs.Places.{part_at, side_meant, Within, SidesWithin, spec_meant}
use Rattle.spec_list.specs.Group.{shifted_side, shifted}

-- a part of the first n bytes
take_within : (at n m : ℕ) (l : Text) → at + n ≤ m → take n (drop at (take m l)) ≡ take n (drop at l)
take_within zero n m l h = take-take n m l (omega arith)
take_within (suc at) n zero l h = absurd (omega arith)
take_within (suc at) n (suc m) [] h = refl
take_within (suc at) n (suc m) (x ∷ l) h = take_within at n m l (omega arith)

-- a part of a part
pub part-part : (s : Text) (start len at n : ℕ) → at + n ≤ len → part_at (part_at s start len) at n ≡ part_at s (start + at) n
part-part s start len at n h = take_within at n len (drop start s) h ∙ rw (drop-drop at start s)

-- the sum of two places is a machine's number
pub shift_fits : (start len : ℕ) (side : Side) (at n : ℕ) → Within len side → start + len ≤ spec_list_bytes → side ≡ Part at n → Fits w64 (start + at)
shift_fits start len side at n w h e = let k : at + n ≤ len = rw e at w in omega arith

-- the answers of `shifted_side` and `shifted`
pub part_shifted : (start at n : ℕ) (side : Side) → side ≡ Part at n → Part (start + at) n ≡ shifted_side start side
part_shifted start at n side e = rw e

pub both-shifted : (start : ℕ) (r : RefSpec) (src dst : Side) → src ≡ shifted_side start r.src → dst ≡ shifted_side start r.dst → record { mode = r.mode; src = src; dst = dst } ≡ shifted start r
unfolding shifted
both-shifted start r src dst e f = rw (e, f)

-- a side denotes the same
side-shifted : (s : Text) (start len : ℕ) (side : Side) → Within len side → side_meant (part_at s start len) side ≡ side_meant s (shifted_side start side)
side-shifted s start len Absent w = refl
side-shifted s start len (Part at n) w = ap (λ (t : Text). some t) (part-part s start len at n w)
side-shifted s start len Head w = refl

-- and stands within the list
within-shifted : (start len total : ℕ) (side : Side) → Within len side → start + len ≤ total → Within total (shifted_side start side)
within-shifted start len total Absent w h = tt
within-shifted start len total (Part at n) w h = omega arith
within-shifted start len total Head w h = tt

-- so does a spec
pub spec-shifted : (s : Text) (start len : ℕ) (r : RefSpec) → SidesWithin len r → spec_meant (part_at s start len) r ≡ spec_meant s (shifted start r)
unfolding spec_meant shifted
spec-shifted s start len r w = rw (side-shifted s start len r.src w.src-within, side-shifted s start len r.dst w.dst-within)

pub sides-shifted : (start len total : ℕ) (r : RefSpec) → SidesWithin len r → start + len ≤ total → SidesWithin total (shifted start r)
unfolding shifted
sides-shifted start len total r w h = record {
  src-within = within-shifted start len total r.src w.src-within h;
  dst-within = within-shifted start len total r.dst w.dst-within h;
}
