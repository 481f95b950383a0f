-- A byte as it is, one as an escape, or a fault. Assumes nothing.
use Rattle.percent.proofs.Steps.{step-plain, step-unsigned, step-short, step-bad, step-escape}
use Rattle.percent.proofs.shown_at.Goals.{then-b-ne37-via-then-b-ne37, then-b-ne37-via-else-b-ne37+then-t-i-lt3}
use Rattle.percent.proofs.shown_at.Goals as goal

pub returns-then-is_plain : goal.returns-then-is_plain
returns-then-is_plain c = search step-plain

pub returns-then-b-ne37 : goal.returns-then-b-ne37
returns-then-b-ne37 c = elim c.then-b-ne37.branch [ then-b-ne37-via-then-b-ne37 w ↦ search step-unsigned | then-b-ne37-via-else-b-ne37+then-t-i-lt3 w ↦ search step-short ]

pub returns-in_err-byte : goal.returns-in_err-byte
returns-in_err-byte c = rw c.from_residual.ensures (search (step-bad, c.in_err-byte.was))

pub returns : goal.returns
returns c = search (step-escape, c.in_ok-byte.was)
