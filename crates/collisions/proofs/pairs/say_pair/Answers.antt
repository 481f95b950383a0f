-- The pieces of the line are printed one after the other. Assumes nothing.
use Rattle.stdio.proofs.Saying.{says-then}
use Rattle.collisions.proofs.pairs.say_pair.Goals as goal

pub returns : goal.returns
returns g c =
    let r = c.say-3.result in
    says-then r _ _ _ _ _ c.in_ok-say_line.ensures
    (says-then r _ _ _ _ _ c.in_ok-say.ensures
    (says-then r _ _ _ _ _ c.in_ok-say_line-2.ensures
    (says-then r _ _ _ _ _ c.in_ok-say-2.ensures
    (says-then r _ _ _ _ _ c.in_ok-say_text.ensures c.say-3.ensures))))
