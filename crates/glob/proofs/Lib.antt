-- `Ends`: a name by its start and its end. `Joined`: a text that stands in two pieces or three.
pub mod Ends
pub mod Joined
