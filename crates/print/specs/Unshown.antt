-- The way back from a text in print: what it stands for, or where it is not as a text is shown.
use Rattle.std.specs.Prelude.{ℕ, ◌+◌, ◌-◌, ◌*◌, ◌≡◌, Bool, true, cond, [], ◌∷◌, eqb, leb, ltb}
use Rattle.meaning.specs.Bytes.{Text, byte, percent, equals, ◌and◌, every}
use Rattle.meaning.specs.Deliveries.{shown}
use Rattle.promises.specs.Facts.{is_byte}
use Rattle.print.specs.Lines.{printable}

-- a text, or a fault after so many bytes that are as a text is shown
pub data Unshown : Type 0 where
  stands : Text → Unshown
  fault : ℕ → Unshown

-- a byte that n bytes show, before what the bytes after them stand for
abbrev pub before : ℕ → ℕ → Unshown → Unshown
before b n (stands t) = stands (b ∷ t)
before b n (fault k) = fault (n + k)

-- n bytes more before a fault
abbrev pub after : ℕ → Unshown → Unshown
after n (stands t) = stands t
after n (fault k) = fault (n + k)

-- the text; no bytes where there is a fault
abbrev pub text_of : Unshown → Text
text_of (stands t) = t
text_of (fault k) = []

-- the number that a capital hexadecimal digit stands for; 16 where a byte is none
unfoldable pub digit_value : ℕ → ℕ
digit_value b = cond (leb (byte "0") b and leb b (byte "9")) (b - byte "0") (cond (leb (byte "A") b and leb b (byte "F")) (b - (byte "A" - 10)) 16)

-- `%` and two such digits
unfoldable pub escape : ℕ → ℕ → ℕ → Bool
escape x h l = eqb percent x and ltb (digit_value h) 16 and ltb (digit_value l) 16

-- the byte that the two digits stand for, the higher one first
unfoldable pub escaped : ℕ → ℕ → ℕ
escaped h l = 16 * digit_value h + digit_value l

-- a byte that is printed as it is stands for itself
unfoldable pub as_it_is : ℕ → Unshown → Unshown
as_it_is x rest = cond (printable x) (before x 1 rest) (fault 0)

-- an escape stands for its byte, and a byte that is printed as it is for itself; nothing else is shown
abbrev pub unshown_bytes : Text → Unshown
unshown_bytes [] = stands []
unshown_bytes (x ∷ []) = as_it_is x (stands [])
unshown_bytes (x ∷ h ∷ []) = as_it_is x (unshown_bytes (h ∷ []))
unshown_bytes (x ∷ h ∷ l ∷ s) = cond (escape x h l) (before (escaped h l) 3 (unshown_bytes s)) (as_it_is x (unshown_bytes (h ∷ l ∷ s)))

-- a text in print: `=`, and then its bytes
abbrev pub unshown : Text → Unshown
unshown [] = fault 0
unshown (x ∷ s) = cond (eqb equals x) (after 1 (unshown_bytes s)) (fault 0)

-- what is shown stands for itself again
abbrev pub ShownBack : Type 0
ShownBack = (t : Text) → every is_byte t ≡ true → unshown (shown t) ≡ stands t
