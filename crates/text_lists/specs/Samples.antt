-- Samples of what the lines of a text give, computed.
use Rattle.std.specs.Prelude.{◌≡◌, refl, List, [], ◌∷◌, ◌++◌, ℕ}
use Rattle.meaning.specs.Bytes.{Text, bytes, byte, line_feed}
use Rattle.meaning.specs.Everything.{everything}
use Rattle.print.specs.Unshown.{digit_value, escape, escaped, as_it_is}
use Rattle.text_lists.specs.Line.{carriage_return, lines_of, byte_order_mark, held_in}
use Rattle.text_lists.specs.Gather.{room_reason, spec_reason, name_reason, Gathering, gathered}

-- a line with its line feed before the rest of its text
infixr 25 ◌then◌
abbrev ◌then◌ : Text → Text → Text
l then rest = l ++ (line_feed ∷ rest)

-- a line with a carriage return and a line feed
infixr 25 ◌then_both◌
abbrev ◌then_both◌ : Text → Text → Text
l then_both rest = l ++ (carriage_return ∷ line_feed ∷ rest)

-- what all lines give, and what those before a refused line give
abbrev all : List Text → List Text → Gathering
all specs names = record { line = 0; reason = 0; text = []; specs = specs; names = names }

abbrev stop : ℕ → ℕ → Text → List Text → List Text → Gathering
stop k n l specs names = record { line = k; reason = n; text = l; specs = specs; names = names }

-- lines: a text that ends in a line feed has no line after it; an empty line is a line
pub lines :
    (lines_of [] ≡ [])
    × (lines_of (bytes "a" then []) ≡ bytes "a" ∷ [])
    × (lines_of (bytes "a" then bytes "b") ≡ bytes "a" ∷ bytes "b" ∷ [])
    × (lines_of ([] then [] then bytes "a") ≡ [] ∷ [] ∷ bytes "a" ∷ [])
lines = (refl, refl, refl, refl)

-- a carriage return belongs to a line's end right before a line feed, and else to the line
pub returns :
    (lines_of (bytes "a" then_both bytes "b" then []) ≡ bytes "a" ∷ bytes "b" ∷ [])
    × (lines_of ([] then_both bytes "a" then_both []) ≡ [] ∷ bytes "a" ∷ [])
    × (lines_of ((carriage_return ∷ []) then_both []) ≡ (carriage_return ∷ []) ∷ [])
    × (lines_of (byte "a" ∷ carriage_return ∷ byte "b" ∷ line_feed ∷ []) ≡ (byte "a" ∷ carriage_return ∷ byte "b" ∷ []) ∷ [])
    × (lines_of (byte "a" ∷ carriage_return ∷ []) ≡ (byte "a" ∷ carriage_return ∷ []) ∷ [])
returns = (refl, refl, refl, refl, refl)

-- what is gathered: lines count from 1, blank ones and comments with them; the rest of a line is the spec or the name, spaces and all
pub gathering :
    (gathered (bytes "# hub" then bytes "fetch a:b" then bytes " " then bytes "name refs/heads/a b" then []) ≡ all (bytes "a:b" ∷ []) (bytes "refs/heads/a b" ∷ []))
    × (gathered (bytes "name a" then bytes "push a" then bytes "name b") ≡ stop 2 101 (bytes "push a") [] (bytes "a" ∷ []))
    × (gathered ([] then bytes " name a") ≡ stop 2 102 (bytes " name a") [] [])
    × (gathered (bytes "fetch a" then_both bytes "fetch ^" then []) ≡ stop 2 10 (bytes "fetch ^") (bytes "a" ∷ []) [])
    × (gathered (bytes "fetch ") ≡ all ([] ∷ []) [])
    × (gathered (bytes "fetch") ≡ stop 1 102 (bytes "fetch") [] [])
    × (gathered (byte_order_mark ++ (bytes "fetch a" then [])) ≡ stop 1 103 (byte_order_mark ++ bytes "fetch a") [] [])
unfolding everything gathered held_in room_reason spec_reason name_reason
gathering = (refl, refl, refl, refl, refl, refl, refl)

-- a name as a listing shows it, and the three faults that it may have
pub shown-names :
    (gathered (bytes "shown =f%C3%BCr" then []) ≡ all [] ((byte "f" ∷ 195 ∷ 188 ∷ byte "r" ∷ []) ∷ []))
    × (gathered (bytes "shown a") ≡ stop 1 104 (bytes "shown a") [] [])
    × (gathered (bytes "shown -") ≡ stop 1 104 (bytes "shown -") [] [])
    × (gathered (bytes "shown =a%c3") ≡ stop 1 105 (bytes "shown =a%c3") [] [])
    × (gathered (bytes "shown =a =b") ≡ stop 1 106 (bytes "shown =a =b") [] [])
unfolding everything gathered held_in room_reason name_reason digit_value escape escaped as_it_is
shown-names = (refl, refl, refl, refl, refl)
