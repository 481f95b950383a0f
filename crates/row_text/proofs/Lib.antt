-- `Writes`: the texts that a match makes, measured and written.
pub mod Writes
