-- `Reading`: what is read into a part of a buffer stands after what was read before. `Saying`: what is written piece by piece.
pub mod Reading
pub mod Saying
