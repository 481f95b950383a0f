-- Why a line of text is refused, in words.
use Rattle.std.specs.Prelude.{ℕ, ◌-◌, cond, List, [], ◌∷◌, leb, get_or}
use Rattle.meaning.specs.Bytes.{Text, bytes, ◌and◌}

-- the phrases: of document 01's numbers 0 to 15, of which 0 and 13 are given to no line, then of our own from 101 on
abbrev pub phrases : List Text
phrases =
    bytes "it is refused"
    ∷ bytes "the spec is above 4,096 bytes"
    ∷ bytes "a push spec is empty"
    ∷ bytes "a spec with `^` has a colon"
    ∷ bytes "a push has a colon and a source, and no destination"
    ∷ bytes "the source has more than one star"
    ∷ bytes "the source does not pass the name rules"
    ∷ bytes "the destination has more than one star"
    ∷ bytes "the destination does not pass the name rules"
    ∷ bytes "one side has a star and the other has none"
    ∷ bytes "no source follows `^`"
    ∷ bytes "the source after `^` is forty or more hexadecimal digits"
    ∷ bytes "with it the specs, or the names, take more than 65,535 bytes"
    ∷ bytes "it is refused"
    ∷ bytes "it is one more than 256 specs, or than 1,024 names"
    ∷ bytes "the name is above 4,096 bytes"
    ∷ bytes "a push is not listed, only a fetch is"
    ∷ bytes "no `fetch SPEC`, `push SPEC`, `name NAME` or `shown =NAME`"
    ∷ bytes "it begins with a byte order mark, the bytes EF BB BF"
    ∷ bytes "what is shown does not begin with `=`"
    ∷ bytes "two capital hexadecimal digits do not follow a `%`"
    ∷ bytes "a listing shows such a byte as `%` and two digits"
    ∷ []

-- the phrase at a place
abbrev pub phrase_at : ℕ → Text
phrase_at k = get_or phrases k []

-- the place of the phrase for a reason: 101 is a push, 102 a line of no known kind, 103 a byte order mark; of a name as a listing shows it,
-- 104 is one without `=`, 105 a `%` without its digits, 106 a byte that no listing prints
unfoldable pub place_of : ℕ → ℕ
place_of n = cond (leb n 15) n (cond (leb 101 n and leb n 106) (n - 85) 0)

-- the words for a reason
unfoldable pub reason_words : ℕ → Text
reason_words n = phrase_at (place_of n)
