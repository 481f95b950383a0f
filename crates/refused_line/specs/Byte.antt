-- Which byte of a line a refusal is about, counted from 1; 0 where it is about none.
use Rattle.std.specs.Prelude.{ℕ, zero, suc, ◌+◌, ◌-◌, ◌≤◌, ◌≡◌, Bool, true, false, not, cond, [], ◌∷◌, eqb, ltb, length, take, drop, Option, Some, None}
use Rattle.meaning.specs.Bytes.{Text, bytes, any}
use Rattle.meaning.specs.Names.{star_as_a, side_passes}
use Rattle.meaning.specs.Spec.{mode_of, unsigned, sides_of, left, right}
use Rattle.text.specs.Last.{later}
use Rattle.name.specs.Rules.{name_byte}
use Rattle.parse.specs.Places.{sign_length}
use Rattle.print.specs.Unshown.{Unshown, stands, fault, unshown}
use Rattle.text_lists.specs.Line.{Held, nothing, marked, unknown, fetch, push, name, shown, held_in}

-- a number that counts from a place on, counted from the start; 0 stays 0
abbrev pub past : ℕ → ℕ → ℕ
past k zero = 0
past k (suc n) = k + suc n

-- a place as the code answers it, counted from 1; 0 where there is none
abbrev pub counted : Option ℕ → ℕ
counted None = 0
counted (Some i) = suc i

-- the first byte that passes a test
abbrev pub first_of : (ℕ → Bool) → Text → ℕ
first_of test [] = 0
first_of test (x ∷ s) = cond (test x) 1 (past 1 (first_of test s))

-- the byte after the first k, if there is one
unfoldable pub byte_after : ℕ → Text → ℕ
byte_after k t = cond (ltb k (length t)) (suc k) 0

-- a byte that the name rules refuse wherever it stands; a star is read as the letter a
unfoldable pub refused_byte : ℕ → Bool
refused_byte b = not (name_byte (star_as_a b))

-- so a side that passes them has none
abbrev pub NoNameHas : Type 0
NoNameHas = (s : Text) → side_passes s ≡ true → any refused_byte s ≡ false

-- the first byte of a spec's source that they refuse: it follows the sign
unfoldable pub source_byte : Text → ℕ
source_byte t = past (sign_length (mode_of t)) (first_of refused_byte (left (sides_of (unsigned t))))

-- the first byte of its destination that they refuse: it stands at the end
unfoldable pub destination_byte : Text → ℕ
destination_byte t = past (length t - length (right (sides_of (unsigned t)))) (first_of refused_byte (right (sides_of (unsigned t))))

-- of a spec that is refused: 6 is about its source, 8 about its destination
unfoldable pub spec_byte : ℕ → Text → ℕ
spec_byte n t = cond (eqb n 6) (source_byte t) (cond (eqb n 8) (destination_byte t) 0)

-- of a name as a listing shows it: the first byte that no listing shows so
abbrev pub unshown_byte : Text → Unshown → ℕ
unshown_byte u (stands t) = 0
unshown_byte u (fault k) = byte_after k u

-- how many bytes two texts begin with alike
abbrev pub alike : Text → Text → ℕ
alike [] t = 0
alike (a ∷ p) [] = 0
alike (a ∷ p) (x ∷ s) = cond (eqb a x) (suc (alike p s)) 0

-- how many bytes of a line a line of a known kind begins with
unfoldable pub known : Text → ℕ
known t = later (later (alike (bytes "fetch ") t) (alike (bytes "push ") t)) (later (alike (bytes "name ") t) (alike (bytes "shown ") t))

-- of a line: what it holds stands at its end; a line of no known kind leaves the known ones at some byte, or ends there
abbrev pub held_byte : ℕ → Text → Held → ℕ
held_byte n l nothing = 0
held_byte n l marked = 0
held_byte n l unknown = byte_after (known l) l
held_byte n l (fetch t) = past (length l - length t) (spec_byte n t)
held_byte n l (push t) = past (length l - length t) (spec_byte n t)
held_byte n l (name t) = 0
held_byte n l (shown u) = past (length l - length u) (unshown_byte u (unshown u))

-- of a line that is refused for a reason
unfoldable pub line_byte : ℕ → Text → ℕ
line_byte n l = held_byte n l (held_in l)

-- where the sides of a spec stand: the source from `start` to `end`, the destination from `rest` on
pub record SidesAt (t : Text) (start end rest : ℕ) : Type 0 where
  pub start_is : start ≡ sign_length (mode_of t)
  pub source_is : take (end - start) (drop start t) ≡ left (sides_of (unsigned t))
  pub destination-is : drop rest t ≡ right (sides_of (unsigned t))
  pub starts : start ≤ end
  pub ends : end ≤ length t
  pub within : rest ≤ length t
