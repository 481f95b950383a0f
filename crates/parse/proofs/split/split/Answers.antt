-- What follows the sign has its sides where its last colon is. Assumes nothing.
use mathlib.Core.Path.{◌≡◌, sym}
use native.Mathlib.Omega.{arith}
use Rattle.parse.proofs.Splits.{sign_fits, split-fits, split_one, no-colon, split-two, a-colon}
use Rattle.parse.proofs.split.split.Goals as goal

pub slice_bounds-past_last-count : goal.slice_bounds-past_last-count
slice_bounds-past_last-count c = search sign_fits

pub slice_bounds-past_last-start : goal.slice_bounds-past_last-start
slice_bounds-past_last-start c = search sign_fits

pub one_side-requires : goal.one_side-requires
one_side-requires c = search sign_fits

pub returns-in_default : goal.returns-in_default
returns-in_default c = let h = sym c.in_default.ensures in (search split_one, search no-colon)

pub two_sides-requires : goal.two_sides-requires
two_sides-requires c = let h = c.in-Some.ensures in (omega arith, search split-fits)

pub returns : goal.returns
returns c =
    let h = c.in-Some.ensures in
    let n : (c.in-Some.past ≡ 0 → ⊥) = λ e. omega arith in
    (search split-two, search a-colon)
