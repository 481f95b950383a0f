use mathlib.Core.Path.{refl}
use native.Mathlib.Omega.{arith}
use Rattle.negatives.specs.Negatives.{excluded_by}
use Rattle.match_group.proofs.Writes.{taken-long, first_good, first-room, second-room, both-put, specs-begin, specs-room, specs-next, specs-end}
use borrow.Author.Rules.{rules}
use Rattle.match_group.proofs.group.put_again.Goals as goal

pub slice_bounds-put_hits-end-2 : goal.slice_bounds-put_hits-end-2
slice_bounds-put_hits-end-2 g c = search taken-long

pub put_hits-end-requires : goal.put_hits-end-requires
put_hits-end-requires g c = (search rules, search rules, search first_good, search first-room)

pub loop-i-init : goal.loop-i-init
loop-i-init g c = (search (specs-begin, second-room), omega arith, refl)

pub put_spec-end-requires : goal.put_spec-end-requires
put_spec-end-requires g c =
    let w = c.loop-i.invariant.0 in
    let h = c.loop-i-test.true in
    (search rules, search rules, search rules, search rules, omega arith, omega arith, search specs-room)

pub loop-i-preserved : goal.loop-i-preserved
loop-i-preserved g c = (search specs-next, omega arith, search rules)

pub returns : goal.returns
returns g c =
    let x = c.args in
    let p = c.requires.1 in
    let e = c.requires.5 in
    let h = c.requires.6 in
    let fits = c.requires.7 in
    let q = c.put_hits-end.ensures in
    let w = c.loop-i.invariant.0 in
    let done = c.loop-i-test.false in
    both-put _ _ _ _ _ _ _ p _ _ h e _ _ fits _ _ q _ _ (specs-end g.D.Direction.back (excluded_by x.specs.now x.negatives.now x.notes.scope.negatives) x.specs.now x.table.now x.notes.scope.specs x.items.now x.places.now x.notes.scope.names _ _ _ _ _ w done)
