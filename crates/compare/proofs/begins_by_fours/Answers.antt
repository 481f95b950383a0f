-- `compare::begins_by_fours` meets its contract: the last four bytes have all that the first four have not.
use Rattle.compare.proofs.Blocks.{block-other, fours-first}
use Rattle.compare.proofs.begins_by_fours.Goals as goal

pub returns-then-not-four_agree : goal.returns-then-not-four_agree
returns-then-not-four_agree c = search block-other

pub returns : goal.returns
returns c = search fours-first
