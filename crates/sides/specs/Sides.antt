-- A side of a spec as a record of its three numbers.
use Rattle.parse.specs.declared.types.Side.{Side}
use Rattle.sides.specs.declared.SideNumbers.{SideNumbers}
use Rattle.sides.specs.Numbers.{side_from, side_kind, side_at, side_len}

-- the numbers of a side
abbrev pub numbers_of : Side → SideNumbers
numbers_of s = record { kind = side_kind s; at = side_at s; len = side_len s }

-- the side that they tell
abbrev pub side_of : SideNumbers → Side
side_of n = side_from n.kind n.at n.len
