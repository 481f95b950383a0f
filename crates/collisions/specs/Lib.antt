-- `Pairs`: what is printed of a pair.
pub mod Pairs
