-- What is written piece by piece. Assumes nothing.
use Rattle.std.proofs.Common.{ℕ, List, ◌++◌, Option, Result}
use Rattle.std.specs.Io.KnownBytes.{Appends}
use Rattle.std.proofs.KnownBytes.{Appends-trans}
use Rattle.std.proofs.lemmas.Result.{on_ok_weaker}
use Rattle.stdio.specs.Streams.{Says}

-- what was written, and what is said to be written after it
pub says-then : {A E : Type 0} (r : Result A E) (a b c : Option (List ℕ)) (s t : List ℕ) → Appends a b s → Says r b c t → Says r a c (s ++ t)
says-then r a b c s t p q = on_ok_weaker r (Appends-trans a b c s t p) q
