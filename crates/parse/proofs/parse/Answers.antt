-- The questions at entry come first, then those on the sides, and the places are those of the split. Assumes nothing.
use Rattle.std.proofs.Common.{arith}
use Rattle.parse.proofs.Places.{sides-within}
use Rattle.parse.proofs.Reading.{reading, answered}
use Rattle.parse.proofs.parse.Goals as goal

pub returns-in_err-op : goal.returns-in_err-op
returns-in_err-op c = answered c.args.op c.args.spec.now _ (grind (arith, reading))

pub sides_refusal-requires : goal.sides_refusal-requires
sides_refusal-requires c = rw c.split-s.ensures.0 (sides-within _ _)

pub returns-in_err-sides_refusal : goal.returns-in_err-sides_refusal
returns-in_err-sides_refusal c = answered c.args.op c.args.spec.now _ (grind (arith, reading))

pub returns : goal.returns
returns c = answered c.args.op c.args.spec.now _ (grind (arith, reading))
