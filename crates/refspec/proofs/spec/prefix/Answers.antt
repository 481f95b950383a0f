-- What reading refuses is refused, and the sides of an accepted spec stand within it. Assumes nothing.
use Rattle.std.proofs.Common.{arith}
use Rattle.parse.proofs.Answers.{read-within}
use Rattle.refspec.specs.Prefixes.{prefixed_places}
use Rattle.refspec.proofs.Answers.{prefixes}
use Rattle.refspec.proofs.Fronts.{remote-within}
use Rattle.refspec.proofs.spec.prefix.Goals as goal

pub returns-in_err-r : goal.returns-in_err-r
unfolding prefixed_places
returns-in_err-r c = prefixes c.args.op c.args.spec.now _ (grind arith)

pub prefix_of-requires : goal.prefix_of-requires
prefix_of-requires c = remote-within _ _ c.in_ok-r.r c.remote.result (read-within c.args.op c.args.spec.now c.parse.result c.parse.ensures.0 c.in_ok-r.r c.in_ok-r.was) c.remote.ensures

pub returns : goal.returns
unfolding prefixed_places
returns c = prefixes c.args.op c.args.spec.now _ (grind arith)
