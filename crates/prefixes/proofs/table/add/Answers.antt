-- The text is spelt, looked for, and entered where it is new. Assumes nothing.
use Rattle.prefixes.proofs.Tables.{spelt-taken, spelt-within, entered-none, entered-one}
use Rattle.prefixes.proofs.table.add.Goals as goal

pub slice_bounds-has-end-3 : goal.slice_bounds-has-end-3
slice_bounds-has-end-3 c = search spelt-within

pub slice_bounds-has-end-4 : goal.slice_bounds-has-end-4
slice_bounds-has-end-4 c = search spelt-taken

pub returns-then-has : goal.returns-then-has
returns-then-has c = search entered-none

pub returns : goal.returns
returns c = search entered-one
