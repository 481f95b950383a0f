use Rattle.negatives.proofs.Asking.{asking-found, asking-done}
use Rattle.negatives.proofs.excluded_pieces.Goals as goal

pub returns-then-matches_pieces : goal.returns-then-matches_pieces
returns-then-matches_pieces c = search asking-found

pub returns : goal.returns
returns c = search asking-done
