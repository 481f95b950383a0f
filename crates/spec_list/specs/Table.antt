-- A record of a table of specs, and the spec that it tells.
use Rattle.std.specs.Prelude.{ℕ, List, get_or, replicate}
use Rattle.parse.specs.declared.types.RefSpec.{RefSpec}
use Rattle.parse.specs.declared.types.Mode.TheVariants.{Normal}
use Rattle.sides.specs.declared.SideNumbers.{SideNumbers}
use Rattle.sides.specs.Sides.{side_of}
use Rattle.spec_list.specs.declared.record.SpecRecord.{SpecRecord}

-- the spec that a record tells
abbrev pub spec_from_record : SpecRecord → RefSpec
spec_from_record q = record { mode = q.mode; src = side_of q.src; dst = side_of q.dst }

-- the numbers of no side
abbrev pub nowhere : SideNumbers
nowhere = record { kind = 0; at = 0; len = 0 }

-- what stands in a table where it has no spec, and what it is read as outside its bounds
abbrev pub blank : SpecRecord
blank = record { mode = Normal; src = nowhere; dst = nowhere }

-- so many places without a spec
unfoldable pub blanks : ℕ → List SpecRecord
blanks n = replicate n blank

-- record number i of a table
abbrev pub record_at : List SpecRecord → ℕ → SpecRecord
record_at table i = get_or table i blank
