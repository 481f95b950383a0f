-- What is left of a text from a place on. Assumes nothing.
use mathlib.Core.Path.{◌≡◌}
use mathlib.Core.List.{[], ◌∷◌}
use Prim.Native.Nat.{ℕ, ◌+◌, ◌-◌, ◌≤◌, ◌<◌}
use native.Mathlib.Nat.{le_refl}
use native.Mathlib.Numerals.{add-one}
use lib.ListN.{length, get_or, drop, take, drop_of_length-le, length-drop}
use lib.Seq.{drop-cons, take_all}
use Rattle.meaning.specs.Bytes.{Text}

-- the rest from i is the byte at i and the rest from i + 1
pub rest-cons : (s : Text) (i : ℕ) → i < length s → drop i s ≡ get_or s i 0 ∷ drop (i + 1) s
rest-cons s i h = rw (add-one, drop-cons s i 0)

-- past the end nothing is left
pub rest_end : (s : Text) (i : ℕ) → length s ≤ i → drop i s ≡ []
rest_end s i h = drop_of_length-le s h

-- `&s[i..]` is the rest from i
pub rest_part : (s : Text) (i : ℕ) → take (length s - i) (drop i s) ≡ drop i s
rest_part s i = take_all (length s - i) (drop i s) (rw length-drop (le_refl _))
