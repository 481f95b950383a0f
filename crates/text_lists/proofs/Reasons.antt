-- The questions asked of a spec and of a name. Assumes nothing.
use Prim.Native.Nat.{ℕ, ◌+◌, ◌-◌, ◌<◌, ◌≤◌}
use mathlib.Core.Path.{◌≡◌, refl}
use mathlib.Core.Bool.{Bool, true, false}
use native.Mathlib.Omega.{arith}
use borrow.Author.Tests.{le-leb, lt-leb, leb-true, lt-ltb, le-ltb, ltb-true, ne_eqb, eqb-true, eqb-false}
use lib.Dec.{eqb, leb, ltb}
use mir.Val.{Fits}
use mir.Syntax.{w64}
use lib.ListN.{length}
use Rattle.meaning.specs.Bytes.{Text}
use Rattle.meaning.specs.Limits.{name_bytes, spec_list_bytes, item_list_bytes, spec_count, item_count, program_bytes}
use Rattle.meaning.specs.Spec.{◌else◌then◌, spec_refusal}
use Rattle.meaning.specs.Number.{number_bytes, text_bytes}
use Rattle.parse.specs.declared.types.RefSpec.{RefSpec}
use Rattle.std.specs.Prelude.{Result, Ok, Err}
use Rattle.refusal.specs.declared.Refusal.{Refusal}
use Rattle.refusal.specs.Numbers.{number_of, number_or0}
use Rattle.refusal.proofs.Numbers.{number_of-positive}
use Rattle.parse.specs.Places.{parsed}
use Rattle.parse.proofs.Answers.{refused-number, accepted-number}
use Rattle.number.proofs.Bytes.{bytes-few}
use Rattle.number.proofs.Texts.{text-size}
use Rattle.text_lists.specs.Gather.{room_reason, spec_reason, name_reason}

-- a number has few bytes
pub size_fits : (m n : ℕ) → m ≡ length (number_bytes n) → n ≤ program_bytes → Fits w64 (m + n)
size_fits m n e h = omega (arith, bytes-few n)

-- 12
module _ (limit size : ℕ) (within : size ≤ limit) (t : Text) (m : ℕ) (em : m ≡ length (number_bytes (length t))) where
  pub room-none : limit - size < m + length t → 12 ≡ room_reason limit size t
  unfolding room_reason
  room-none h = rw (lt-leb (size + length (text_bytes t)) limit (omega (arith, text-size t (length t) refl m em)))

  pub room-some : m + length t ≤ limit - size → 0 ≡ room_reason limit size t
  unfolding room_reason
  room-some h = rw (le-leb (size + length (text_bytes t)) limit (omega (arith, text-size t (length t) refl m em)))

module _ (count size : ℕ) (t : Text) where
  pub spec-many : spec_count ≤ count → 14 ≡ spec_reason count size t
  unfolding spec_reason
  spec-many h = rw (le-ltb count spec_count h)

  module _ (few : count < spec_count) (p : Result RefSpec Refusal) (ep : p ≡ parsed 0 t) where
    -- its own questions refuse it
    pub spec-turned : (q : Refusal) → p ≡ Err q → number_of q ≡ spec_reason count size t
    unfolding spec_reason
    spec-turned q e = rw (lt-ltb count spec_count few, refused-number 0 t p ep q e, ne_eqb (number_of q) 0 (λ z. omega (arith, number_of-positive q)))

    -- they accept it
    pub spec-asked : (r : RefSpec) → p ≡ Ok r → (q : Result (Unit {0}) Refusal) → number_or0 q ≡ room_reason spec_list_bytes size t → number_or0 q ≡ spec_reason count size t
    unfolding spec_reason
    spec-asked r e q f = rw (lt-ltb count spec_count few, accepted-number 0 t p ep r e) f

  pub name-many : item_count ≤ count → 14 ≡ name_reason count size t
  unfolding name_reason
  name-many h = rw (le-ltb count item_count h)

  pub name-long : count < item_count → name_bytes < length t → 15 ≡ name_reason count size t
  unfolding name_reason
  name-long h l = rw (lt-ltb count item_count h, lt-leb (length t) name_bytes l)

  pub name-asked : count < item_count → length t ≤ name_bytes → (q : Result (Unit {0}) Refusal) → number_or0 q ≡ room_reason item_list_bytes size t → number_or0 q ≡ name_reason count size t
  unfolding name_reason
  name-asked h l q f = rw (lt-ltb count item_count h, le-leb (length t) name_bytes l) f

-- a spec that nothing refuses
pub record SpecPasses (count size : ℕ) (t : Text) : Type 0 where
  pub few : count < spec_count
  pub own : spec_refusal 0 t ≡ 0
  pub fits : size + length (text_bytes t) ≤ spec_list_bytes

pub spec-passes : (count size : ℕ) (t : Text) → spec_reason count size t ≡ 0 → SpecPasses count size t
unfolding spec_reason room_reason
spec-passes count size t e = go (ltb count spec_count) refl (eqb (spec_refusal 0 t) 0) refl (leb (size + length (text_bytes t)) spec_list_bytes) refl e
  where
    go : (a : Bool) → ltb count spec_count ≡ a → (b : Bool) → eqb (spec_refusal 0 t) 0 ≡ b → (c : Bool) → leb (size + length (text_bytes t)) spec_list_bytes ≡ c → (a else 14 then b else spec_refusal 0 t then c else 12 then 0) ≡ 0 → SpecPasses count size t
    go false f b g c h z = absurd (omega arith)
    go true f false g c h z = absurd (eqb-false (spec_refusal 0 t) 0 g z)
    go true f true g false h z = absurd (omega arith)
    go true f true g true h z = record { few = ltb-true count spec_count f; own = eqb-true (spec_refusal 0 t) 0 g; fits = leb-true (size + length (text_bytes t)) spec_list_bytes h }

-- a name that nothing refuses
pub record NamePasses (count size : ℕ) (t : Text) : Type 0 where
  pub few : count < item_count
  pub short : length t ≤ name_bytes
  pub fits : size + length (text_bytes t) ≤ item_list_bytes

pub name-passes : (count size : ℕ) (t : Text) → name_reason count size t ≡ 0 → NamePasses count size t
unfolding name_reason room_reason
name-passes count size t e = go (ltb count item_count) refl (leb (length t) name_bytes) refl (leb (size + length (text_bytes t)) item_list_bytes) refl e
  where
    go : (a : Bool) → ltb count item_count ≡ a → (b : Bool) → leb (length t) name_bytes ≡ b → (c : Bool) → leb (size + length (text_bytes t)) item_list_bytes ≡ c → (a else 14 then b else 15 then c else 12 then 0) ≡ 0 → NamePasses count size t
    go false f b g c h z = absurd (omega arith)
    go true f false g c h z = absurd (omega arith)
    go true f true g false h z = absurd (omega arith)
    go true f true g true h z = record { few = ltb-true count item_count f; short = leb-true (length t) name_bytes g; fits = leb-true (size + length (text_bytes t)) item_list_bytes h }
