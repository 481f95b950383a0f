-- `frames::any_candidate` meets its contract: a candidate of another size is not the name, and no two have one size.
use native.Mathlib.Omega.{arith}
use Rattle.frames.proofs.Seeking.{too_short, no-frame, one_told}
use Rattle.frames.proofs.any_candidate.Goals as goal

pub returns-in_default : goal.returns-in_default
returns-in_default c = too_short c.args.t.now c.args.name.now (omega (arith, c.in_default.ensures))

pub returns-in-Some-frame_adding : goal.returns-in-Some-frame_adding
returns-in-Some-frame_adding c =
    let k = c.in-Some-frame_adding.ensures in
    one_told c.args.t.now c.args.name.now c.in-Some.d (omega (arith, c.in-Some.ensures)) c.in-Some-frame_adding.k k.0 k.1 c.is_framed.result c.is_framed.ensures

pub returns-in-None : goal.returns-in-None
returns-in-None c = no-frame c.args.t.now c.args.name.now c.in-Some.d (omega (arith, c.in-Some.ensures)) c.in-None.ensures
