-- `number::size` meets its contract: the two bounds are those of one and of two groups.
use Rattle.number.proofs.Bytes.{size-one, size-two, size-three}
use Rattle.number.proofs.size.Goals as goal

pub returns-then-n-lt128 : goal.returns-then-n-lt128
returns-then-n-lt128 c = search size-one

pub returns-then-n-lt-TWO_GROUPS : goal.returns-then-n-lt-TWO_GROUPS
returns-then-n-lt-TWO_GROUPS c = search size-two

pub returns-else-n-lt-TWO_GROUPS : goal.returns-else-n-lt-TWO_GROUPS
returns-else-n-lt-TWO_GROUPS c = search size-three
