use Rattle.std.proofs.Common.{rules}
use Rattle.std.proofs.lemmas.Result.{on_ok_weaker}
use Rattle.text_program.proofs.Saying.{printed-more, printed-all}
use Rattle.text_program.proofs.output.say_text.Goals as goal

pub loop-at-preserved : goal.loop-at-preserved
loop-at-preserved g c = search (rules, printed-more)

pub returns : goal.returns
returns g c = on_ok_weaker _ (printed-all _ _ _ _ _ c.loop-at.invariant (search rules)) c.say-2.ensures
