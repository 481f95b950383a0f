-- `Texts`: the canonical text by its pieces.
pub mod Texts
