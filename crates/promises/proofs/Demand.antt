-- Demand 3 whole. Assumes nothing.
use Rattle.promises.specs.Demands.{ConflictsExactly, ListingsReadBack, KeptMapBack, CanonicalTextsChangeNothing}
use Rattle.promises.proofs.Conflicts.{conflicts-exactly}
use Rattle.promises.proofs.ReadBack.{listings-read-back}
use Rattle.promises.proofs.MapBack.{kept-map-back}
use Rattle.promises.proofs.Canonical.{canonical-texts-change-nothing}

-- the four statements
pub demand-three : ConflictsExactly × ListingsReadBack × KeptMapBack × CanonicalTextsChangeNothing
demand-three = (conflicts-exactly, listings-read-back, kept-map-back, canonical-texts-change-nothing)
