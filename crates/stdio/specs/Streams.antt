-- What writing does to an output.
use Rattle.std.specs.Prelude.{ℕ, List, Option, Result, OnOk}
use Rattle.std.specs.Io.KnownBytes.{Appends}

-- where all was written, the output grew by t
abbrev pub Says : {A E : Type 0} → Result A E → Option (List ℕ) → Option (List ℕ) → List ℕ → Type 0
Says result before after t = OnOk result (Appends before after t)
