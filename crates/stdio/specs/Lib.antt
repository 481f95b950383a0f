-- `Streams`: what writing does.
pub mod Streams
