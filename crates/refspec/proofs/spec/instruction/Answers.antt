-- What reading refuses is refused, and what it accepts instructs. Assumes nothing.
use Rattle.std.proofs.Common.{arith}
use Rattle.refspec.specs.Instructions.{instructed_places}
use Rattle.refspec.proofs.Answers.{instructs}
use Rattle.refspec.proofs.spec.instruction.Goals as goal

pub returns-in_err-parse : goal.returns-in_err-parse
unfolding instructed_places
returns-in_err-parse c = instructs c.args.op c.args.spec.now _ (grind arith)

pub returns : goal.returns
unfolding instructed_places
returns c = instructs c.args.op c.args.spec.now _ (grind arith)
