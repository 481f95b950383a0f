-- `Numbers`: a side of a spec as three numbers. `Sides`: these as one record.
pub mod Numbers
pub mod Sides
