-- A candidate of a partial name by its number.
use Rattle.std.specs.Prelude.{ℕ, ◌+◌, [], length, get_or}
use Rattle.meaning.specs.Bytes.{Text}
use Rattle.meaning.specs.Prefix.{Frame, frame, frames, candidates}

-- candidate number k of a partial name, 0 to 5; no bytes for a higher number
unfoldable pub candidate : ℕ → Text → Text
candidate k t = get_or (candidates t) k []

-- frame number k, 0 to 5
abbrev pub frame_at : ℕ → Frame
frame_at k = get_or frames k (frame [] [])

-- how many bytes frame number k adds to a name
abbrev pub adds : ℕ → ℕ
adds k = length (frame_at k).leading + length (frame_at k).trailing

-- the most bytes that a frame adds to a name: `refs/remotes/` and `/HEAD`
abbrev pub longest_frame : ℕ
longest_frame = 18
