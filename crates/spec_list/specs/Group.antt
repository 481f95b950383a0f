-- What reading a spec list answers: its specs as places in the list, or a refusal; and what stands at a place of a spec list.
use Rattle.std.specs.Prelude.{ℕ, ◌+◌, ◌-◌, ◌<◌, ◌≤◌, ◌≡◌, List, [], ◌∷◌, map, length, take, drop, Option as Maybe, None, Some, Result, Ok, Err}
use Rattle.std.proofs.Math.Option.{Option, none}
use Rattle.meaning.specs.Bytes.{Text}
use Rattle.meaning.specs.Limits.{spec_count}
use Rattle.meaning.specs.Buffers.{or_zero}
use Rattle.meaning.specs.Spec.{Answer, accepted, refused, Spec, read_spec}
use Rattle.meaning.specs.Number.{took, no}
use Rattle.meaning.specs.Lists.{spec_record}
use Rattle.parse.specs.declared.types.Side.{Side}
use Rattle.parse.specs.declared.types.Side.TheVariants.{Absent, Part, Head}
use Rattle.parse.specs.declared.types.RefSpec.{RefSpec}
use Rattle.parse.specs.Places.{part_at, SidesWithin, spec_meant}
use Rattle.refusal.specs.declared.Refusal.{Refusal}
use Rattle.refusal.specs.Numbers.{number_of}
use Rattle.list.specs.declared.cursor.Record.{Record}
use Rattle.list.specs.declared.refused.Refused.{Refused}
use Rattle.spec_list.specs.declared.Group.{Group}
use Rattle.spec_list.specs.declared.record.SpecRecord.{SpecRecord}
use Rattle.spec_list.specs.Table.{spec_from_record, blanks}

-- a side of a text that begins at `start` of a list, as a place in the list
abbrev pub shifted_side : ℕ → Side → Side
shifted_side start Absent = Absent
shifted_side start (Part at n) = Part (start + at) n
shifted_side start Head = Head

-- both sides
unfoldable pub shifted : ℕ → RefSpec → RefSpec
shifted start r = record { mode = r.mode; src = shifted_side start r.src; dst = shifted_side start r.dst }

-- the spec that a record denotes in a list
abbrev pub record_meant : Text → SpecRecord → Spec
record_meant s q = spec_meant s (spec_from_record q)

-- the specs that records denote
abbrev pub group_meant : Text → List SpecRecord → List Spec
group_meant s l = map (record_meant s) l

-- the sides of each spec stand within so many bytes
abbrev pub AllWithin : ℕ → List SpecRecord → Type 0
AllWithin len [] = Unit {0}
AllWithin len (q ∷ l) = SidesWithin len (spec_from_record q) × AllWithin len l

-- a group that was read: its specs, as records of places in the list, and nothing in the places after them
pub record GroupIs (list : Text) (g : Group) (group : List Spec) : Type 0 where
  pub count-is : g.count ≡ length group
  pub count-within : g.count ≤ spec_count
  pub means : group_meant list (take g.count g.specs) ≡ group
  pub within : AllWithin (length list) (take g.count g.specs)
  pub others : drop g.count g.specs ≡ blanks (spec_count - g.count)

-- a group that was refused: the refusal's number, and its record's or 0
pub record GroupRefused (e : Refused) (n : ℕ) (r : Option ℕ) : Type 0 where
  pub number : number_of e.refusal ≡ n
  pub carried : e.«record» ≡ or_zero r

-- a group tells an answer on its list
abbrev pub GroupRead : Text → Result Group Refused → Answer (List Spec) → Type 0
GroupRead list (Ok g) (accepted group) = GroupIs list g group
GroupRead list (Ok g) (refused n r) = ⊥
GroupRead list (Err e) (accepted group) = ⊥
GroupRead list (Err e) (refused n r) = GroupRefused e n r

-- what is told of the spec of `len` bytes that begins at `start` of a list
abbrev pub SpecIn : ℕ → Text → ℕ → ℕ → Result RefSpec Refusal → Type 0
SpecIn op s start len (Ok r) = (read_spec op (part_at s start len) ≡ accepted (spec_meant s r)) × SidesWithin (length s) r
SpecIn op s start len (Err e) = read_spec op (part_at s start len) ≡ refused (number_of e) none

-- spec number j stands at a place of a list, as places in it, and the next at a later place
pub record SpecTaken (op j : ℕ) (s : Text) (at : ℕ) (r : RefSpec) (next : ℕ) : Type 0 where
  pub here : at < length s
  pub reads : spec_record op j (drop at s) ≡ took (spec_meant s r) (drop next s)
  pub sides : SidesWithin (length s) r
  pub number : j < spec_count
  pub on : at < next
  pub within : next ≤ length s

-- the record at a place of a list is refused
pub record SpecTurned (op j : ℕ) (s : Text) (at n : ℕ) : Type 0 where
  pub here : at < length s
  pub reads : spec_record op j (drop at s) ≡ no n

-- what is told of record number j at a place of a list
abbrev pub SpecSays : ℕ → ℕ → Text → ℕ → Result (Maybe (Record RefSpec)) Refusal → Type 0
SpecSays op j s at (Ok (Some r)) = SpecTaken op j s at r.value r.next.at
SpecSays op j s at (Ok None) = length s ≤ at
SpecSays op j s at (Err e) = SpecTurned op j s at (number_of e)
