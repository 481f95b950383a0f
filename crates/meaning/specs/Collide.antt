-- Whether two specs can ever collide: some name under the first and some name under the second are written to one destination. Document
-- 02, W1.
use Rattle.std.specs.Prelude.{ℕ, cond, [], ◌∷◌, ◌++◌}
use Rattle.std.proofs.Math.Option.{Option, none, some, map}
use Rattle.meaning.specs.Bytes.{Text, same, begins, ends, present}
use Rattle.meaning.specs.Spec.{Answer, accepted, refused, Spec, is_negative, read_spec}
use Rattle.meaning.specs.Buffers.{Outputs}
use Rattle.meaning.specs.Match.{Form, literal, pattern, form_of, capture, completed}
use Rattle.meaning.specs.Entries.{◌and_then◌}

-- a destination as it is written: a literal in its completed form
abbrev pub as_written : Form → Form
as_written (literal t) = literal (completed t)
as_written (pattern a b) = pattern a b

-- where a spec writes: nowhere if it is negative or has no destination
unfoldable pub target : Spec → Option Form
target s = cond (is_negative s.mode) none (map (λ d. as_written (form_of d)) s.destination)

-- the longer of two starts, if one begins the other
unfoldable pub longer_start : Text → Text → Option Text
longer_start a b = cond (begins a b) (some b) (cond (begins b a) (some a) none)

-- the longer of two ends, if one closes the other
unfoldable pub longer_end : Text → Text → Option Text
longer_end a b = cond (ends a b) (some b) (cond (ends b a) (some a) none)

-- a start followed by an end, if both are there
abbrev pub followed_by : Option Text → Option Text → Option Text
followed_by none b = none
followed_by (some a) none = none
followed_by (some a) (some b) = some (a ++ b)

-- a literal, if it has the start a and the end b, which do not overlap
unfoldable pub literal_in : Text → Text → Text → Option Text
literal_in a b t = cond (present (capture a b t)) (some t) none

-- a destination that two targets share: the literal, or the longer start followed by the longer end
abbrev pub shared : Form → Form → Option Text
shared (literal t) (literal u) = cond (same t u) (some t) none
shared (literal t) (pattern a b) = literal_in a b t
shared (pattern a b) (literal t) = literal_in a b t
shared (pattern a b) (pattern a' b') = followed_by (longer_start a a') (longer_end b b')

-- a spec that writes nowhere shares nothing
abbrev pub shared_by : Option Form → Option Form → Option Text
shared_by none g = none
shared_by (some f) none = none
shared_by (some f) (some g) = shared f g

-- a destination on which two specs collide, if there is one
unfoldable pub collision : Spec → Spec → Option Text
collision s r = shared_by (target s) (target r)

-- the answer on one of two specs: a refusal carries the spec's number, 1 the first or 2 the second
abbrev pub of_spec : {A : Type 0} → ℕ → Answer A → Answer A
of_spec k (accepted a) = accepted a
of_spec k (refused n r) = refused n (some k)

-- the report on two fetch specs, the first one's questions before the second's: yes with a destination, or no
unfoldable pub collide : Text → Text → Answer (Option Text)
collide t u =
    of_spec 1 (read_spec 0 t) and_then λ s.
    of_spec 2 (read_spec 0 u) and_then λ r.
    accepted (collision s r)

-- its bytes: the destination of a yes, perhaps of no bytes; a no leaves the buffer alone
unfoldable pub collide_bytes : Text → Text → Answer Outputs
collide_bytes t u = collide t u and_then λ o. accepted (o ∷ [])
