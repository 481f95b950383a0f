-- `Told`: a destination that is told stands in its buffer.
pub mod Told
