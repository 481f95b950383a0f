-- In reverse nothing comes first.
use mathlib.Core.Path.{refl}
use native.Mathlib.Omega.{arith}
use Rattle.search.proofs.Notes.{adds_none}
use Rattle.search.proofs.listing.ReverseListing.first_found.Goals as goal

pub returns : goal.returns
returns c = (refl, omega arith, search adds_none)
