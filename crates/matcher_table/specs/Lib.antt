-- `Numbers`: a matcher as ten numbers of a table.
pub mod Numbers
