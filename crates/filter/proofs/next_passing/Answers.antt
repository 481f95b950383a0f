use native.Mathlib.Omega.{arith}
use Rattle.filter.proofs.Looks.{passing-here, passing-more, passing-none}
use Rattle.filter.proofs.next_passing.Goals as goal

pub returns-then-passes : goal.returns-then-passes
returns-then-passes c = search passing-here

pub loop-j-preserved : goal.loop-j-preserved
loop-j-preserved c = (omega arith, search passing-more)

pub returns : goal.returns
returns c = search passing-none
