-- `Filters`: what a filter stops has no row. `Looks`: a name is looked at, and one name after the other.
pub mod Filters
pub mod Looks
