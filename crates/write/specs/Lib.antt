-- `Canonical`: the pieces of the canonical text.
pub mod Canonical
