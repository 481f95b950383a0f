use mathlib.Core.Path.{refl}
use native.Mathlib.Omega.{arith}
use Prim.Native.Nat.{◌+◌}
use Rattle.buffer.proofs.Copies.{Copied, copied_none, copied-eight, copied-last}
use Rattle.buffer.proofs.copy.put_by_eights.Goals as goal
use Rattle.buffer.proofs.copy.put_by_eights.Goals.{else-loop-i-test, then-loop-i-test+else-last-i-gt8}

pub loop-i-init : goal.loop-i-init
loop-i-init c = search copied_none

pub loop-i-preserved : goal.loop-i-preserved
loop-i-preserved c = search copied-eight

pub returns : goal.returns
returns c =
    let d = c.args.dst.now in
    let s = c.args.src.now in
    let out = c.loop-i-test.dst in
    elim c.loop-i-test.branch [
      | else-loop-i-test w ↦
          let done : Copied d c.args.at s out c.loop-i.i = rw w.dst-is c.loop-i.invariant in
          (search copied-last, refl)
      | then-loop-i-test+else-last-i-gt8 w ↦
          let done : Copied d c.args.at s out (c.loop-i.i + 8) = rw w.dst-is (search copied-eight) in
          (copied-last d c.args.at s out _ _ done (omega arith) (omega arith) c.copy_eight-2.ensures, refl)
    ]
