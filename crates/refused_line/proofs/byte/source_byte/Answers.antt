-- The first refused byte of the side is counted from where the side stands.
use Rattle.refused_line.proofs.Sides.{source-none, source-some}
use Rattle.refused_line.proofs.byte.source_byte.Goals as goal

pub returns-in_err-i : goal.returns-in_err-i
returns-in_err-i c = source-none _ _ _ _ c.split-s.ensures _ c.first_refused.ensures c.in_err-i.was _ c.from_residual.ensures

pub returns : goal.returns
returns c = source-some _ _ _ _ c.split-s.ensures _ c.first_refused.ensures _ c.in_ok-i.was
