-- The lines of a text, and what a line holds.
use Rattle.std.specs.Prelude.{ℕ, ◌+◌, ◌-◌, ◌<◌, ◌≤◌, ◌≡◌, Bool, cond, List, [], ◌∷◌, eqb, length, take, drop}
use Rattle.meaning.specs.Bytes.{Text, bytes, byte, tab, line_feed, ◌and◌, ◌or◌, every, begins, numbered_from}
use Rattle.text_lists.specs.declared.line.Line.{Line}
use Rattle.text_lists.specs.declared.line.Line.TheVariants.{Nothing, Fetch, Push, Name, Shown, Marked, Unknown}

-- what may stand before a line feed, as part of the line's end
abbrev pub carriage_return : ℕ
carriage_return = byte "\r"

-- a byte before the first of some lines
abbrev pub before_first : ℕ → List Text → List Text
before_first x [] = (x ∷ []) ∷ []
before_first x (l ∷ lines) = (x ∷ l) ∷ lines

-- the lines of a text: each ends in a line feed, or in a carriage return and a line feed; what follows the last line feed is a line if it
-- is not empty
abbrev pub lines_of : Text → List Text
lines_of [] = []
lines_of (x ∷ s) =
    cond (eqb line_feed x) ([] ∷ lines_of s)
    (cond (eqb carriage_return x and begins (line_feed ∷ []) s) (lines_of s) (before_first x (lines_of s)))

-- the lines of what is left of a text after so many, each with its number
abbrev pub lines_left : ℕ → Text → List (ℕ × Text)
lines_left passed rest = numbered_from (passed + 1) (lines_of rest)

-- a line of s from a place on: where its text ends, and where the next line begins
pub record LineAt (s : Text) (at end next : ℕ) : Type 0 where
  pub is : lines_of (drop at s) ≡ take (end - at) (drop at s) ∷ lines_of (drop next s)
  pub starts : at ≤ end
  pub ends : end < next
  pub within : next ≤ length s + 1

-- nothing, a spec for fetch or for push, a name, a name as a listing shows it, a byte order mark before anything else, or none of these
pub data Held : Type 0 where
  nothing marked unknown : Held
  fetch push name shown : Text → Held

-- the byte order mark: the bytes EF BB BF, with which some editors begin a text
abbrev pub byte_order_mark : Text
byte_order_mark = 239 ∷ 187 ∷ 191 ∷ []

-- a space or a tab
abbrev pub blank_byte : ℕ → Bool
blank_byte b = eqb b (byte " ") or eqb b tab

-- a blank line and one that begins with `#` hold nothing; else the word that a line begins with says what follows it
unfoldable pub held_in : Text → Held
held_in t =
    cond (every blank_byte t or begins (bytes "#") t) nothing
    (cond (begins (bytes "fetch ") t) (fetch (drop 6 t))
    (cond (begins (bytes "push ") t) (push (drop 5 t))
    (cond (begins (bytes "name ") t) (name (drop 5 t))
    (cond (begins (bytes "shown ") t) (shown (drop 6 t))
    (cond (begins byte_order_mark t) marked unknown)))))

-- what an answer means: what follows a place of the line
abbrev pub line_meant : Text → Line → Held
line_meant t Nothing = nothing
line_meant t (Fetch at) = fetch (drop at t)
line_meant t (Push at) = push (drop at t)
line_meant t (Name at) = name (drop at t)
line_meant t (Shown at) = shown (drop at t)
line_meant t Marked = marked
line_meant t Unknown = unknown

-- the place stands within so many bytes
abbrev pub LineWithin : ℕ → Line → Type 0
LineWithin len Nothing = Unit {0}
LineWithin len (Fetch at) = at ≤ len
LineWithin len (Push at) = at ≤ len
LineWithin len (Name at) = at ≤ len
LineWithin len (Shown at) = at ≤ len
LineWithin len Marked = Unit {0}
LineWithin len Unknown = Unit {0}

-- an answer about a line: what it holds, from a place of it on
pub record TellsLine (t : Text) (r : Line) : Type 0 where
  pub means : line_meant t r ≡ held_in t
  pub within : LineWithin (length t) r
