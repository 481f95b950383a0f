-- The source is read back from where it was put together.
use Rattle.match_row.proofs.Sources.{front-asked}
use Rattle.match_row.proofs.gone.put_removed.Goals as goal

pub returns : goal.returns
returns c = search front-asked
