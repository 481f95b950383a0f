-- `number::read` meets its contract: each answer is what the byte at the place decides.
use Rattle.std.proofs.Common.{◌∙◌}
use Rattle.number.proofs.Places.{one_end, one_last, one_more}
use Rattle.number.proofs.read.Goals as goal

pub returns-in_err-get : goal.returns-in_err-get
returns-in_err-get c = c.from_residual.ensures ∙ search (one_end, c.in_err-get.ensures.lookup)

pub returns-then-a-lt128 : goal.returns-then-a-lt128
returns-then-a-lt128 c = let b = c.in_ok-get.ensures.lookup.3 in one_last _ _ b.0 _ (c.from-a.ensures ∙ b.1 0) c.if-a-lt128.true

pub returns : goal.returns
returns c = let b = c.in_ok-get.ensures.lookup.3 in search (one_more, b.0, c.from-a.ensures ∙ b.1 0)
