-- The fields of a line, each with the byte that ends it. Assumes nothing.
use mathlib.Core.Path.{◌≡◌, refl}
use mathlib.Core.List.{[], ◌∷◌}
use Prim.Native.Nat.{ℕ, zero, suc, ◌+◌, ◌-◌, ◌<◌, ◌≤◌}
use native.Mathlib.Omega.{arith}
use lib.ListN.{length, length-append}
use Rattle.meaning.specs.Bytes.{Text, bytes}
use Rattle.meaning.specs.Deliveries.{decimal, shown_item, shown_kind}
use Rattle.buffer.specs.Splice.{splice}
use Rattle.buffer.proofs.Pairs.{pair-first, pair-second, pair_put, pair_end}
use Rattle.print.specs.Lines.{ended}

-- a field has one byte more
pub ended-length : (b : ℕ) (f : Text) → length (ended b f) ≡ length f + 1
unfolding ended
ended-length b f = length-append f (b ∷ [])

-- a field and then the byte that ends it
module _ (d : Text) (at b : ℕ) (f : Text) (fits : at + length (ended b f) ≤ length d) where
  pub field_room : at + length f ≤ length d
  unfolding ended
  field_room = pair-first d at f (b ∷ []) fits

  module _ (o : Text) (i : ℕ) (eo : o ≡ splice d at f) (ei : i ≡ at + length f) where
    pub end-room : i < length o
    unfolding ended
    end-room = omega (arith, pair-second d at f (b ∷ []) fits o i eo ei)

    pub field_put : (p : Text) → p ≡ splice o i (b ∷ []) → p ≡ splice d at (ended b f)
    unfolding ended
    field_put p e = pair_put d at f (b ∷ []) fits o i eo ei p e

    pub field-ends : (r : ℕ) → r ≡ i + 1 → r ≡ at + length (ended b f)
    unfolding ended
    field-ends r e = pair_end d at f (b ∷ []) fits o i eo ei r e

-- the number of an item, from 0
item-is : (item : ℕ) → (item ≡ 0 → ⊥) → shown_item item ≡ decimal (item - 1)
item-is zero z = absurd (z refl)
item-is (suc n) z = let e : suc n - 1 ≡ n = omega arith in rw e

module _ (item : ℕ) (some : item ≡ 0 → ⊥) where
  pub item-length : (r : ℕ) → r ≡ length (decimal (item - 1)) → r ≡ length (shown_item item)
  item-length r e = rw (item-is item some) e

-- the word for any kind but 0
pub kind-other : (kind : ℕ) → (kind ≡ 0 → ⊥) → bytes "object" ≡ shown_kind kind
kind-other zero z = absurd (z refl)
kind-other (suc n) z = refl

-- a word that is answered, and then the byte that ends its field
module _ (d : Text) (at b : ℕ) (f : Text) (fits : at + length (ended b f) ≤ length d) (w : Text) (e : w ≡ f) where
  pub word-room : at + length w ≤ length d
  word-room = rw e (field_room d at b f fits)

  module _ (o : Text) (i : ℕ) (eo : o ≡ splice d at w) (ei : i ≡ at + length w) where
    pub word-end : i < length o
    word-end = end-room d at b f fits o i (rw e at eo) (rw e at ei)

    pub word_put : (p : Text) → p ≡ splice o i (b ∷ []) → p ≡ splice d at (ended b f)
    word_put p g = field_put d at b f fits o i (rw e at eo) (rw e at ei) p g

    pub word-ends : (r : ℕ) → r ≡ i + 1 → r ≡ at + length (ended b f)
    word-ends r g = field-ends d at b f fits o i (rw e at eo) (rw e at ei) r g
