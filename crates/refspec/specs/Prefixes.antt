-- The prefix of a spec as a place, and the prefix that it means.
use Rattle.std.specs.Prelude.{ℕ, cond, length, Result, Ok, Err}
use Rattle.std.specs.Prelude as code
use Rattle.std.proofs.Math.Option.{Option, none, some}
use Rattle.meaning.specs.Bytes.{Text}
use Rattle.meaning.specs.Spec.{Answer, accepted, refused, is_negative, push}
use Rattle.meaning.specs.Prefix.{name_prefix}
use Rattle.parse.specs.declared.types.Side.{Side}
use Rattle.parse.specs.declared.types.Side.TheVariants.{Absent, Part, Head}
use Rattle.parse.specs.declared.types.RefSpec.{RefSpec}
use Rattle.refusal.specs.declared.Refusal.{Refusal}
use Rattle.refusal.specs.Numbers.{number_of}
use Rattle.parse.specs.Places.{mode_meant, part_at, side_meant, parsed}

-- the side that prefixes are taken from: the source in fetch, the destination in push; a negative has none
unfoldable pub remote_place : ℕ → RefSpec → Side
remote_place op r = cond (is_negative (mode_meant r.mode)) Absent (cond (push op) r.dst r.src)

-- how many bytes a prefix has, if there is one
abbrev pub prefix_size : Option Text → code.Option ℕ
prefix_size none = code.None
prefix_size (some p) = code.Some (length p)

-- the place of a prefix of a name that begins at a place
abbrev pub prefix_at : ℕ → Option Text → Side
prefix_at at none = Absent
prefix_at at (some p) = Part at (length p)

-- the place of the prefix of a side
abbrev pub prefix_place : Text → Side → Side
prefix_place t Absent = Absent
prefix_place t (Part at n) = prefix_at at (name_prefix (part_at t at n))
prefix_place t Head = Head

-- an answer of reading, as a prefix
abbrev pub prefixed_by : ℕ → Text → Result RefSpec Refusal → Result Side Refusal
prefixed_by op t (Ok r) = Ok (prefix_place t (remote_place op r))
prefixed_by op t (Err q) = Err q

-- the prefix of a spec
unfoldable pub prefixed_places : ℕ → Text → Result Side Refusal
prefixed_places op t = prefixed_by op t (parsed op t)

-- what an answer means: the prefix, if there is one, or the number of the question that refuses
abbrev pub prefixed_meant : Text → Result Side Refusal → Answer (Option Text)
prefixed_meant t (Ok side) = accepted (side_meant t side)
prefixed_meant t (Err q) = refused (number_of q) none
