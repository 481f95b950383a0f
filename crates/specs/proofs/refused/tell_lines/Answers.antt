use Rattle.meaning.specs.Limits.{program_bytes}
use Rattle.text_lists.proofs.Lines.{left-short}
use Rattle.specs.proofs.refused.tell_lines.Goals as goal

pub loop-number-init : goal.loop-number-init
loop-number-init g c = (tt, tt, rw (c.into_iter-number-iterator.ensures.into_iter_gives, c.of-number-items.ensures) (left-short program_bytes 0 c.args.s.now c.requires))
