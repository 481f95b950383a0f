use mathlib.Core.Path.{◌≡◌}
use Prim.Native.Nat.{◌/◌}
use native.Mathlib.Omega.{arith}
use Rattle.matcher_table.specs.Numbers.{matcher_at}
use Rattle.search.specs.Hits.{hit_stride}
use Rattle.search.proofs.Writes.{hits-begin, hits-end, hits-none, first-matcher, turn-matcher, turn-ready, turn_spec, turn-item, turn-gives, turn-room, turn-next}
use borrow.Author.Rules.{rules}
use Rattle.search.proofs.put.put_hits.Goals as goal
use Rattle.search.proofs.put.put_hits.Goals.{then-i-last, else-i-last}

pub returns-then-hits-eq0 : goal.returns-then-hits-eq0
returns-then-hits-eq0 g c = search hits-none

pub matcher_at-m-requires : goal.matcher_at-m-requires
matcher_at-m-requires g c = search first-matcher

pub loop-noted-init : goal.loop-noted-init
loop-noted-init g c = (search hits-begin, omega arith, search rules)

pub matcher_at-m-requires-then-i-last : goal.matcher_at-m-requires-then-i-last
matcher_at-m-requires-then-i-last g c =
    let t = c.requires.0 in
    let q = c.requires.2 in
    let h = c.loop-noted-test.true in
    search turn-matcher

pub put_hit-end-requires : goal.put_hit-end-requires
put_hit-end-requires g c =
    let t = c.requires.0 in
    let q = c.requires.2 in
    let h = c.loop-noted-test.true in
    let e = c.wider-hit.ensures in
    let w = c.loop-noted.invariant.0 in
    let em : c.if-i-last.m ≡ matcher_at c.args.table.now (c.wider-hit.result / hit_stride) = elim c.if-i-last.branch [ then-i-last w ↦ cc | else-i-last w ↦ cc ] in
    (turn-ready _ _ _ _ t _ _ _ _ q _ h _ e _ em, c.requires.1, turn_spec _ _ _ _ t _ _ _ _ q _ h _ e, turn-item _ _ _ _ t _ _ _ _ q _ h _ e, turn-gives _ _ _ _ t _ _ _ _ q _ h _ e _ em, turn-room _ _ _ _ t _ _ _ _ q _ h _ e _ em _ _ _ _ w)

pub loop-noted-preserved : goal.loop-noted-preserved
loop-noted-preserved g c =
    let t = c.requires.0 in
    let q = c.requires.2 in
    let h = c.loop-noted-test.true in
    let e = c.wider-hit.ensures in
    let w = c.loop-noted.invariant.0 in
    let em : c.if-i-last.m ≡ matcher_at c.args.table.now (c.wider-hit.result / hit_stride) = elim c.if-i-last.branch [ then-i-last w ↦ cc | else-i-last w ↦ cc ] in
    let f : c.if-i-last.m ≡ matcher_at c.args.table.now c.if-i-last.last = elim c.if-i-last.branch [ then-i-last w ↦ cc | else-i-last w ↦ cc ] in
    (turn-next _ _ _ _ t _ _ _ _ q _ h _ e _ em _ _ _ _ w _ _ c.put_hit-end.ensures, omega arith, f)

pub returns : goal.returns
returns g c = search hits-end
