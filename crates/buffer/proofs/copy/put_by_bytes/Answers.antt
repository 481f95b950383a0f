use native.Mathlib.Numerals.{add-one}
use native.Mathlib.Omega.{arith}
use mathlib.Core.Path.{refl, ◌∙◌}
use Prim.Native.Nat.{◌+◌, ◌<◌}
use lib.ListN.{length, length-set}
use lib.Seq.{paste-suc}
use Rattle.buffer.proofs.Splices.{splice-paste}
use Rattle.buffer.proofs.copy.put_by_bytes.Goals as goal

pub loop-i-preserved : goal.loop-i-preserved
loop-i-preserved c =
    let d = c.args.dst.now in
    let s = c.args.src.now in
    let i = c.loop-i.i in
    let h : c.args.at + i < length d = omega arith in
    (rw (add-one i, c.loop-i.invariant.0) (paste-suc d c.args.at s i 0 h c.loop-i-test.true), simp length-set c.loop-i.invariant.1)

pub returns : goal.returns
returns c = (c.loop-i.invariant.0 ∙ splice-paste c.args.dst.now c.args.at c.args.src.now c.loop-i.i (omega arith), refl)
