-- `Output`: what is printed.
pub mod Output
