-- Texts in first-seen order, each once.
use Rattle.std.specs.Prelude.{cond, List, [], ◌∷◌, ◌++◌}
use Rattle.meaning.specs.Bytes.{Text, any, same}

-- a text after those that were seen, unless it is one of them
unfoldable pub add_new : List Text → Text → List Text
add_new seen t = cond (any (same t) seen) seen (seen ++ (t ∷ []))

-- each of the texts, after those that were seen
abbrev pub add_all : List Text → List Text → List Text
add_all seen [] = seen
add_all seen (t ∷ l) = add_all (add_new seen t) l
