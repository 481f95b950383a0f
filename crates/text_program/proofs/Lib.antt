-- `Saying`: what is printed piece by piece.
pub mod Saying
