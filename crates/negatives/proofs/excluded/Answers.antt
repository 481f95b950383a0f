use Rattle.negatives.proofs.Asking.{asking-found, asking-done}
use Rattle.negatives.proofs.excluded.Goals as goal

pub returns-then-matches : goal.returns-then-matches
returns-then-matches c = search asking-found

pub returns : goal.returns
returns c = search asking-done
