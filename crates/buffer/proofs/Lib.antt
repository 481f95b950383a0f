-- `Splices`: what is written after what was written. `Pairs`, `Threes`: two texts and three, written one after the other. `Writing`: a text
-- that is written piece by piece. `Lowers`: lower case. `Copies`: bytes stored in a row. `Meets`: how a call on one buffer meets it.
pub mod Splices
pub mod Pairs
pub mod Threes
pub mod Writing
pub mod Lowers
pub mod Copies
pub mod Meets
