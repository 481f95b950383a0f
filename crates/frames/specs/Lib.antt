-- `Frames`: a candidate of a partial name by its number.
pub mod Frames
