-- `Filters`: a quick look at a name, and what it stops.
pub mod Filters
