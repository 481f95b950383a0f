-- `Fills`: a pattern with a capture for its star. `Onward`, `Backward`, `Objects`: the ends of a row mean the meaning's. `Caught`: what a
-- pattern catches. `BySize`: the ends of a name that is known to be matched.
pub mod Fills
pub mod Onward
pub mod Backward
pub mod Objects
pub mod Caught
pub mod BySize
