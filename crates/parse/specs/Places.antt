-- A refspec as places in its bytes, and the texts that the places denote.
use Rattle.std.specs.Prelude.{ℕ, zero, suc, ◌+◌, ◌≤◌, Bool, true, false, not, cond, [], ◌∷◌, eqb, length, take, drop, Result, Ok, Err}
use Rattle.std.proofs.Math.Option.{Option, none, some}
use Rattle.meaning.specs.Bytes.{Text, bytes, ◌and◌, same}
use Rattle.meaning.specs.Spec as meaning
use Rattle.parse.specs.declared.types.Operation.{Operation}
use Rattle.parse.specs.declared.types.Operation.TheVariants.{Fetch, Push}
use Rattle.parse.specs.declared.types.Mode.{Mode}
use Rattle.parse.specs.declared.types.Mode.TheVariants.{Normal, Force, Negative}
use Rattle.parse.specs.declared.types.Side.{Side}
use Rattle.parse.specs.declared.types.Side.TheVariants.{Absent, Part, Head}
use Rattle.parse.specs.declared.types.RefSpec.{RefSpec}
use Rattle.refusal.specs.declared.Refusal.{Refusal}
use Rattle.refusal.specs.Numbers.{number_of, question}

-- the number of an operation
abbrev pub op_meant : Operation → ℕ
op_meant Fetch = 0
op_meant Push = 1

-- the mode that a mode of the code means
abbrev pub mode_meant : Mode → meaning.Mode
mode_meant Normal = meaning.Normal
mode_meant Force = meaning.Force
mode_meant Negative = meaning.Negative

-- the code's case for a mode
abbrev pub mode_case : meaning.Mode → Mode
mode_case meaning.Normal = Normal
mode_case meaning.Force = Force
mode_case meaning.Negative = Negative

-- the n bytes of t that begin at a place
abbrev pub part_at : Text → ℕ → ℕ → Text
part_at t at n = take n (drop at t)

-- the text that a side denotes in the bytes of its spec
abbrev pub side_meant : Text → Side → Option Text
side_meant t Absent = none
side_meant t (Part at n) = some (part_at t at n)
side_meant t Head = some (bytes "HEAD")

-- a side is there
abbrev pub is_present : Side → Bool
is_present Absent = false
is_present (Part at n) = true
is_present Head = true

-- a side stands within so many bytes
abbrev pub Within : ℕ → Side → Type 0
Within len Absent = Unit {0}
Within len (Part at n) = at + n ≤ len
Within len Head = Unit {0}

-- both sides of a spec stand within so many bytes
pub record SidesWithin (len : ℕ) (r : RefSpec) : Type 0 where
  pub src-within : Within len r.src
  pub dst-within : Within len r.dst

-- the spec that places denote
unfoldable pub spec_meant : Text → RefSpec → meaning.Spec
spec_meant t r = record { mode = mode_meant r.mode; source = side_meant t r.src; destination = side_meant t r.dst }

-- how many bytes the sign of a mode takes
abbrev pub sign_length : meaning.Mode → ℕ
sign_length meaning.Normal = 0
sign_length meaning.Force = 1
sign_length meaning.Negative = 1

-- the place of a side that begins at a place; an empty side is absent
abbrev pub placed : ℕ → Text → Side
placed at [] = Absent
placed at (x ∷ s) = Part at (length (x ∷ s))

-- the place of an absent source: in fetch the supplied `HEAD`, unless negative
unfoldable pub supplied_place : ℕ → meaning.Mode → Side
supplied_place op m = cond (eqb op 0 and not (meaning.is_negative m)) Head Absent

-- the place of a source that is there; `@` is the supplied `HEAD`
unfoldable pub named_place : ℕ → Text → Side
named_place at t = cond (same t (bytes "@")) Head (Part at (length t))

-- the place of the source that a left side means
abbrev pub source_place : ℕ → meaning.Mode → ℕ → Text → Side
source_place op m at [] = supplied_place op m
source_place op m at (x ∷ s) = named_place at (x ∷ s)

-- the places of the sides of a text whose sign takes `at` bytes: the source follows the sign, the destination the colon
unfoldable pub places_at : ℕ → meaning.Mode → ℕ → meaning.Sides → RefSpec
places_at op m at d =
    record {
      mode = mode_case m;
      src = source_place op m at (meaning.left d);
      dst = placed (suc (at + length (meaning.left d))) (meaning.right d);
    }

-- the places of a spec's sides
unfoldable pub places_of : ℕ → Text → RefSpec
places_of op t = places_at op (meaning.mode_of t) (sign_length (meaning.mode_of t)) (meaning.sides_of (meaning.unsigned t))

-- places, unless a question refused
abbrev pub parsed_unless : ℕ → RefSpec → Result RefSpec Refusal
parsed_unless zero r = Ok r
parsed_unless (suc n) r = Err (question (suc n))

-- what reading a spec answers
unfoldable pub parsed : ℕ → Text → Result RefSpec Refusal
parsed op t = parsed_unless (meaning.spec_refusal op t) (places_of op t)

-- what an answer of reading means
abbrev pub parsed_meant : Text → Result RefSpec Refusal → meaning.Answer meaning.Spec
parsed_meant t (Ok r) = meaning.accepted (spec_meant t r)
parsed_meant t (Err r) = meaning.refused (number_of r) none
