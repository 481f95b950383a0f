use native.Mathlib.Omega.{arith}
use mathlib.Core.Path.{◌≡◌}
use Prim.Native.Nat.{◌-◌, ◌+◌, ◌≤◌}
use lib.ListN.{length, drop}
use Rattle.meaning.specs.Bytes.{begins}
use Rattle.compare.proofs.Blocks.{block-other, block_same, eights-all}
use Rattle.compare.proofs.begins_by_eights.Goals as goal

pub returns-then-not-eight_agree : goal.returns-then-not-eight_agree
returns-then-not-eight_agree c = search block-other

pub returns-else-not-eight_agree : goal.returns-else-not-eight_agree
returns-else-not-eight_agree c = search eights-all

pub returns-else-not-eight_agree-2 : goal.returns-else-not-eight_agree-2
returns-else-not-eight_agree-2 c =
    let p = c.args.p.now in
    let s = c.args.s.now in
    let i = c.loop-i.i + 8 in
    let left : begins (drop i p) (drop i s) ≡ begins p s = search block_same in
    let past : length p - 8 ≤ i = omega arith in
    search eights-all
