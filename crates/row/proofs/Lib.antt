-- `Rows`: a row's bytes by its pieces.
pub mod Rows
