-- Reading one spec: its sign, its sides, and the questions in order.
use Rattle.std.specs.Prelude.{ℕ, zero, suc, Bool, true, false, not, cond, [], ◌∷◌, eqb, leb, length}
use Rattle.std.proofs.Math.Option.{Option, none, some}
use Rattle.meaning.specs.Bytes.{Text, bytes, star, plus, colon, caret, ◌and◌, ◌or◌, agree, every, empty, same, has_byte, count, given, present, absent, if_given, hex_digit}
use Rattle.meaning.specs.Limits.{spec_bytes, hash_digits}
use Rattle.meaning.specs.Names.{side_passes}

-- what a call answers: a value, or a refusal's number with the record's number where it carries one
pub data Answer (A : Type 0) : Type 0 where
  accepted : A → Answer A
  refused : ℕ → Option ℕ → Answer A

-- a question: its number where the answer is no, else what the later ones say. 0: none refused
infixr 20 ◌else◌then◌
abbrev pub ◌else◌then◌ : Bool → ℕ → ℕ → ℕ
true else n then rest = rest
false else n then rest = n

-- `+` forces, `^` excludes. The numbers that stand for modes, absent sides and the supplied `HEAD` are the code's: crate `answers`
pub data Mode : Type 0 where
  Normal Force Negative : Mode

-- a spec: a mode, and two texts that may be absent
pub record Spec : Type 0 where
  pub mode : Mode
  pub source : Option Text
  pub destination : Option Text

-- the mode of `^`
abbrev pub is_negative : Mode → Bool
is_negative Normal = false
is_negative Force = false
is_negative Negative = true

-- the mode of `+`
abbrev pub is_force : Mode → Bool
is_force Normal = false
is_force Force = true
is_force Negative = false

-- operation 1
abbrev pub push : ℕ → Bool
push op = eqb op 1

-- the mode that a first byte gives
unfoldable pub mode_of_byte : ℕ → Mode
mode_of_byte x = cond (eqb caret x) Negative (cond (eqb plus x) Force Normal)

-- the mode of a text
abbrev pub mode_of : Text → Mode
mode_of [] = Normal
mode_of (x ∷ t) = mode_of_byte x

-- a text whose first byte gives this mode, with a sign taken off
abbrev pub sign_off : Mode → ℕ → Text → Text
sign_off Normal x t = x ∷ t
sign_off Force x t = t
sign_off Negative x t = t

-- a text with one leading `^` or `+` taken off
abbrev pub unsigned : Text → Text
unsigned [] = []
unsigned (x ∷ t) = sign_off (mode_of_byte x) x t

-- a text with no colon, or what stands before and after its last colon
pub data Sides : Type 0 where
  one : Text → Sides
  two : Text → Text → Sides

-- the sides of a text with one more byte before it
abbrev pub sides_next : ℕ → Sides → Sides
sides_next x (one t) = cond (eqb colon x) (two [] t) (one (x ∷ t))
sides_next x (two s t) = two (x ∷ s) t

-- a text split at its last colon
abbrev pub sides_of : Text → Sides
sides_of [] = one []
sides_of (x ∷ t) = sides_next x (sides_of t)

-- a colon stood in it
abbrev pub has_colon : Sides → Bool
has_colon (one t) = false
has_colon (two s t) = true

-- the side before the colon
abbrev pub left : Sides → Text
left (one t) = t
left (two s t) = s

-- the side after it
abbrev pub right : Sides → Text
right (one t) = []
right (two s t) = t

-- an absent source: `HEAD` in fetch, unless negative
unfoldable pub supplied : ℕ → Mode → Option Text
supplied op m = cond (eqb op 0 and not (is_negative m)) (some (bytes "HEAD")) none

-- a source that is there: `@` is `HEAD`
unfoldable pub named : Text → Text
named t = cond (same t (bytes "@")) (bytes "HEAD") t

-- the source that a left side means
abbrev pub source_of : ℕ → Mode → Text → Option Text
source_of op m [] = supplied op m
source_of op m (x ∷ t) = some (named (x ∷ t))

-- the spec that a mode and the sides mean
unfoldable pub spec_from : ℕ → Mode → Sides → Spec
spec_from op m d = record { mode = m; source = source_of op m (left d); destination = given (right d) }

-- the spec that a text means, if it is accepted
unfoldable pub spec_of : ℕ → Text → Spec
spec_of op t = spec_from op (mode_of t) (sides_of (unsigned t))

-- a star stands in the text
unfoldable pub starred : Text → Bool
starred t = has_byte star t

-- a star stands in it; an absent side has none
abbrev pub has_star : Option Text → Bool
has_star none = false
has_star (some t) = starred t

-- questions 5 and 7
unfoldable pub at_most_one_star : Text → Bool
at_most_one_star t = leb (count star t) 1

-- a push source with a destination and no star skips the name rules
unfoldable pub exempt : ℕ → Spec → Bool
exempt op s = push op and present s.destination and not (has_star s.source)

-- forty or more bytes, all hexadecimal digits
unfoldable pub hash_like : Text → Bool
hash_like t = leb hash_digits (length t) and every hex_digit t

-- question 11
unfoldable pub not_hash_like : Text → Bool
not_hash_like t = not (hash_like t)

-- both sides have a star or neither, asked unless negative or a push without destination
unfoldable pub stars_agree : ℕ → Spec → Bool
stars_agree op s = is_negative s.mode or (push op and absent s.destination) or agree (has_star s.source) (has_star s.destination)

-- the questions asked of the sides of a spec, in order
unfoldable pub sides_refusal : ℕ → Bool → Spec → ℕ
sides_refusal op with_colon s =
    not (is_negative s.mode and with_colon) else 3 then
    not (push op and with_colon and present s.source and absent s.destination) else 4 then
    if_given at_most_one_star s.source else 5 then
    (exempt op s or if_given side_passes s.source) else 6 then
    if_given at_most_one_star s.destination else 7 then
    if_given side_passes s.destination else 8 then
    stars_agree op s else 9 then
    (not (is_negative s.mode) or present s.source) else 10 then
    (not (is_negative s.mode) or if_given not_hash_like s.source) else 11 then
    0

-- the questions asked of a spec, in order: the first refusal's number, or 0
unfoldable pub spec_refusal : ℕ → Text → ℕ
spec_refusal op t =
    leb op 1 else 18 then
    leb (length t) spec_bytes else 1 then
    not (push op and empty t) else 2 then
    sides_refusal op (has_colon (sides_of (unsigned t))) (spec_of op t)

-- a value, unless a question refused
abbrev pub unless : {A : Type 0} → ℕ → A → Answer A
unless zero a = accepted a
unless (suc n) a = refused (suc n) none

-- what a spec reads as
unfoldable pub read_spec : ℕ → Text → Answer Spec
read_spec op t = unless (spec_refusal op t) (spec_of op t)
