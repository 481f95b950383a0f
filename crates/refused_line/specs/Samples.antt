-- Samples of what is said of refused lines, computed.
use Rattle.std.specs.Prelude.{◌≡◌, refl, [], ◌∷◌, ◌++◌}
use Rattle.meaning.specs.Bytes.{Text, bytes, tab, line_feed}
use Rattle.meaning.specs.Everything.{everything}
use Rattle.text.specs.Last.{later}
use Rattle.name.specs.Rules.{name_byte}
use Rattle.print.specs.Unshown.{digit_value, escape, escaped, as_it_is}
use Rattle.refusal_words.specs.Words.{place_of, reason_words}
use Rattle.text_lists.specs.Line.{carriage_return, held_in}
use Rattle.refused_line.specs.Byte.{byte_after, refused_byte, source_byte, destination_byte, spec_byte, known, line_byte}
use Rattle.refused_line.specs.Message.{numeral, hexadecimal, byte_itself, byte_words, line_told, refused_line}

-- a line without its line feed
abbrev ended : Text → Text
ended t = t ++ (line_feed ∷ [])

-- which byte: the first of the source or of the destination that the name rules refuse; a sign and a star are none
pub which :
    (line_byte 6 (bytes "fetch a b:c d") ≡ 8)
    × (line_byte 8 (bytes "fetch a b:c d") ≡ 12)
    × (line_byte 6 (bytes "fetch ^^a*") ≡ 8)
    × (line_byte 6 (bytes "fetch a:b:c") ≡ 8)
    × (line_byte 6 (bytes "push a..b") ≡ 0)
    × (line_byte 14 (bytes "fetch a b") ≡ 0)
    × (line_byte 105 (bytes "shown =a%2") ≡ 9)
    × (line_byte 104 (bytes "shown ") ≡ 0)
    × (line_byte 102 (bytes " name a") ≡ 1)
    × (line_byte 102 (bytes "pull a") ≡ 3)
    × (line_byte 102 (bytes "name") ≡ 0)
unfolding everything held_in name_byte later digit_value escape escaped as_it_is byte_after refused_byte source_byte destination_byte spec_byte known line_byte
which = (refl, refl, refl, refl, refl, refl, refl, refl, refl, refl, refl)

-- and the words
pub said :
    (refused_line 12 9 (bytes "fetch a*:b") ≡ ended (bytes "line 12: one side has a star and the other has none"))
    × (refused_line 3 6 (bytes "fetch a b") ≡ ended (bytes "line 3: the source does not pass the name rules: byte 8 is a space"))
    × (refused_line 3 8 (bytes "fetch a:b^") ≡ ended (bytes "line 3: the destination does not pass the name rules: byte 10 is `^`"))
    × (refused_line 1 6 (bytes "fetch a" ++ (127 ∷ [])) ≡ ended (bytes "line 1: the source does not pass the name rules: byte 8 is 0x7F"))
    × (refused_line 1 6 (bytes "fetch a" ++ (carriage_return ∷ [])) ≡ ended (bytes "line 1: the source does not pass the name rules: byte 8 is a carriage return"))
    × (refused_line 4 102 (bytes "name" ++ (tab ∷ bytes "a")) ≡ ended (bytes "line 4: no `fetch SPEC`, `push SPEC`, `name NAME` or `shown =NAME`: byte 5 is a tab"))
unfolding everything held_in name_byte later digit_value escape escaped as_it_is byte_after refused_byte source_byte destination_byte spec_byte known line_byte place_of reason_words numeral hexadecimal byte_itself byte_words line_told refused_line
said = (refl, refl, refl, refl, refl, refl)
