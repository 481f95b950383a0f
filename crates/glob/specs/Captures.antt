-- A capture as a place in a name, and the text that it denotes.
use Rattle.std.specs.Prelude.{ℕ, ◌+◌, ◌-◌, ◌≤◌, Option, Some, None, cond, length, take, drop}
use Rattle.std.proofs.Math.Option as math
use Rattle.meaning.specs.Bytes.{Text, begins, ends}
use Rattle.glob.specs.declared.Captured.{Captured}

-- the text that a capture denotes in its name
abbrev pub capture_meant : Text → Option Captured → math.Option Text
capture_meant name None = math.none
capture_meant name (Some c) = math.some (take c.len (drop c.from name))

-- what a name has from a place on, before its end b
abbrev pub ended_at : Text → ℕ → Text → Option Captured
ended_at name from b = cond (ends b (drop from name)) (Some (record { from = from; len = length name - from - length b })) None

-- where the capture of a name stands, between the start a and the end b
unfoldable pub captured_at : Text → Text → Text → Option Captured
captured_at a b name = cond (begins a name) (ended_at name (length a) b) None

-- a capture stands within so many bytes
abbrev pub CaptureWithin : ℕ → Option Captured → Type 0
CaptureWithin n None = Unit {0}
CaptureWithin n (Some c) = c.from + c.len ≤ n
