-- Each arm is one kind of yield. Assumes nothing.
use Rattle.prefixes.proofs.Adding.{add-one-is}
use Rattle.prefixes.proofs.add_yield.Goals as goal

pub returns-in-One : goal.returns-in-One
returns-in-One c = search add-one-is
