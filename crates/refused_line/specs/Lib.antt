-- `Byte`: which byte of a line a refusal is about. `Message`: what is said of a refused line; `Samples`: some of it, computed.
pub mod Byte
pub mod Message
pub mod Samples
