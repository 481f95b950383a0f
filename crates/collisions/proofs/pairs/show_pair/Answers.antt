-- A destination that is told stands in its buffer. Assumes nothing.
use Rattle.std.proofs.Common.{rules, length-take-le}
use Rattle.collisions.proofs.Told.{told-within}
use Rattle.collisions.proofs.pairs.show_pair.Goals as goal

pub slice_bounds-out-end : goal.slice_bounds-out-end
slice_bounds-out-end g c = search (rules, told-within)

pub slice_bounds-say_pair-end : goal.slice_bounds-say_pair-end
slice_bounds-say_pair-end g c = search (rules, length-take-le, told-within)
