-- `Pairs`: what one spec gives for one name, and as an object source. `Asking`: what the functions ask and answer.
pub mod Pairs
pub mod Asking
