-- `Digits`: a digit as std tests it.
pub mod Digits
