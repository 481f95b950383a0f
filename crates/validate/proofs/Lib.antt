-- `Entry`: a row list as a whole.
pub mod Entry
