-- `Rows`: what stands at a place of a row list. `Lists`: the rows of a list that was read.
pub mod Rows
pub mod Lists
