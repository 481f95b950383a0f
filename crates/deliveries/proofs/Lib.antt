-- `Inputs`: an input that was read gives what its bytes give.
pub mod Inputs
