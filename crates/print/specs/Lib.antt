-- `Lines`: a field with the byte after it, and a row of plain numbers and texts. `Unshown`: the way back from a text in print; `Samples`: some
-- of it, computed.
pub mod Lines
pub mod Unshown
pub mod Samples
