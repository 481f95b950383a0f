use Rattle.text_lists.proofs.Walks.{walked-starts, walked_stop, walked_more}
use Rattle.text_lists.proofs.gather.Goals as goal

pub loop-number-init : goal.loop-number-init
loop-number-init c = (tt, tt, walked-starts _ _ _ _ (rw c.into_iter-number-iterator.ensures.into_iter_gives c.of-number-items.ensures))

pub loop-number-preserved : goal.loop-number-preserved
loop-number-preserved c = (tt, tt, search (walked_more, c.in-Some.ensures.steps))

pub returns-in-Err : goal.returns-in-Err
returns-in-Err c = search (walked_stop, c.in-Some.ensures.steps)
