-- `Decode`: how a text in print is read, step by step.
pub mod Decode
