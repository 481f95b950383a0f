-- What a spec yields for its prefix list, as places.
use Rattle.std.specs.Prelude.{ℕ, ◌+◌, ◌≤◌, cond, List, [], ◌∷◌, length}
use Rattle.std.proofs.Math.Option.{Option, none, some}
use Rattle.meaning.specs.Bytes.{Text, bytes, slash, begins, has_byte, after, or_empty, object_id}
use Rattle.meaning.specs.Prefix.{name_prefix, candidates}
use Rattle.parse.specs.declared.types.Side.{Side}
use Rattle.parse.specs.declared.types.Side.TheVariants.{Absent, Part, Head}
use Rattle.parse.specs.Places.{part_at, Within}
use Rattle.expand.specs.declared.Yield.{Yield}
use Rattle.expand.specs.declared.Yield.TheVariants.{Nothing, One, Six}
use Rattle.refspec.specs.Instructions.{side_text}

-- what a name without a prefix yields, where it begins at a place
unfoldable pub yield_without : ℕ → Text → Yield
yield_without at t =
    cond (begins (bytes "refs/") t) (cond (has_byte slash (or_empty (after (bytes "refs/") t))) Nothing (One (Part at (length t))))
    (cond (object_id t) Nothing (Six at (length t)))

-- a prefix is yielded alone
abbrev pub yield_by : ℕ → Text → Option Text → Yield
yield_by at t (some p) = One (Part at (length p))
yield_by at t none = yield_without at t

-- what the name of n bytes that begins at a place yields
abbrev pub yield_at : Text → ℕ → ℕ → Yield
yield_at t at n = yield_by at (part_at t at n) (name_prefix (part_at t at n))

-- what a side yields
abbrev pub yield_place : Text → Side → Yield
yield_place t Absent = Nothing
yield_place t (Part at n) = yield_at t at n
yield_place t Head = One Head

-- the texts that a yield denotes
abbrev pub yield_meant : Text → Yield → List Text
yield_meant t Nothing = []
yield_meant t (One side) = side_text t side ∷ []
yield_meant t (Six at n) = candidates (part_at t at n)

-- a yield stands within so many bytes
abbrev pub YieldWithin : ℕ → Yield → Type 0
YieldWithin len Nothing = Unit {0}
YieldWithin len (One side) = Within len side
YieldWithin len (Six at n) = at + n ≤ len
