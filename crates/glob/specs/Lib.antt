-- `Captures`: what a capture denotes.
pub mod Captures
